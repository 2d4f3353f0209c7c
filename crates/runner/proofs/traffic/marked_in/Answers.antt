use Rattle.std.proofs.Common.{ℕ, ◌+◌, get_or, ap, ◌∙◌, add_assoc, arith}
use Rattle.runner.proofs.Tallied.{four_less}
use Rattle.runner.proofs.traffic.marked_in.Goals as goal

pub returns : goal.returns
returns c = let t = c.args.t.now in let at = c.args.at in let j = c.args.j in let m = c.requires.masks in let l = c.requires.column in
    four_less _ _ _ _ _ _ _ _ _ _ _ _ (omega arith) (omega arith) (omega arith) (omega arith) (ap (λ (k : ℕ). get_or t k 0) (add_assoc at 24 j) ∙ m (24 + j) (omega arith)) (ap (λ (k : ℕ). get_or t k 0) (add_assoc at 16 j) ∙ m (16 + j) (omega arith)) (ap (λ (k : ℕ). get_or t k 0) (add_assoc at 8 j) ∙ m (8 + j) (omega arith)) (m j (omega arith)) c.wrapping_sub_u32-last.ensures.value c.wrapping_sub_u32-third.ensures.value c.wrapping_sub_u32-second.ensures.value c.wrapping_sub_u32.ensures.value

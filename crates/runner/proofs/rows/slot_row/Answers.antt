use Rattle.std.proofs.Common.{◌≡◌, ℕ, ◌+◌, ◌*◌, get_or, ap, ◌∙◌, arith}
use Rattle.runner.proofs.Filled.{row_same}
use Rattle.runner.specs.Image.{lane_in}
use Rattle.runner.proofs.rows.slot_row.Goals as goal

-- a place from 0 on
shifted : (s L : ℕ) → 32 * s + 0 + L ≡ 32 * s + L
shifted s L = omega arith

pub returns : goal.returns
unfolding lane_in
returns c = (rw c.place.ensures at c.copied.ensures) ∙ row_same _ _ (λ L l. ap (λ (k : ℕ). get_or c.args.image.now k 0) (shifted c.args.slot L))

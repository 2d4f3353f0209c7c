use Rattle.std.proofs.Common.{ℕ, [], ◌∷◌, get_or}
use Rattle.lane.specs.Words.{Lane}
use Rattle.runner.proofs.Lanes.{Turned}
use Rattle.runner.specs.PrivateLut.{is_set, answered, stored_word}
use lib.Ieee.{nan}
use Rattle.runner.proofs.lut.answer_rows.Given as goal

abbrev pub invariant-loop-n : goal.invariant-loop-n
invariant-loop-n l = Turned (λ (L : ℕ) (own : Lane). (l.vd, stored_word (answered l.m (get_or l.r3 L 0) (is_set (get_or l.act L 0)) l.vd (get_or l.x L nan)) (get_or l.old L 0)) ∷ []) l.initial.image l.n l.image

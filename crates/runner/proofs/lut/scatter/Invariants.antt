use Rattle.std.proofs.Common.{ℕ, [], ◌∷◌, get_or}
use Rattle.lane.specs.Words.{Lane}
use Rattle.runner.proofs.Lanes.{Turned}
use Rattle.runner.proofs.lut.scatter.Given as goal

abbrev pub invariant-loop-n : goal.invariant-loop-n
invariant-loop-n l = Turned (λ (L : ℕ) (own : Lane). (get_or l.answers.slots L 0, get_or l.answers.words L 0) ∷ []) l.initial.image l.n l.image

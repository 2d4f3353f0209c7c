use Rattle.std.proofs.Common.{ℕ, get_or}
use Rattle.lane.specs.Words.{Lane}
use Rattle.runner.proofs.Lanes.{Turned}
use Rattle.runner.specs.PrivateCompute.{word_with}
use Rattle.runner.proofs.compute.word_rows.Given as goal

abbrev pub invariant-loop-n : goal.invariant-loop-n
invariant-loop-n l = Turned (λ (L : ℕ) (own : Lane). word_with l.op l.i (get_or l.b L 0) (get_or l.c L 0) own) l.initial.image l.n l.image

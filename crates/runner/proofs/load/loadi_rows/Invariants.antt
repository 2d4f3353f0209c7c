use Rattle.std.proofs.Common.{ℕ}
use Rattle.lane.specs.Load.{loadi}
use Rattle.lane.specs.Words.{Lane}
use Rattle.runner.proofs.Lanes.{Turned}
use Rattle.runner.proofs.load.loadi_rows.Given as goal

abbrev pub invariant-loop-n : goal.invariant-loop-n
invariant-loop-n l = Turned (λ (L : ℕ) (own : Lane). loadi l.i own) l.initial.image l.n l.image

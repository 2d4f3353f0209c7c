use Rattle.std.proofs.Common.{ℕ, ◌+◌}
use Rattle.lane.specs.Words.{Lane}
use Rattle.runner.proofs.Lanes.{Turned}
use Rattle.runner.specs.PrivateRows.{marked}
use Rattle.runner.specs.PrivateSwap.{exchanged}
use Rattle.runner.proofs.swap.exchange.Given as goal

abbrev pub invariant-loop-n : goal.invariant-loop-n
invariant-loop-n l = Turned (λ (L : ℕ) (own : Lane). exchanged l.p l.q (marked l.t (l.a + L)) (marked l.t (l.b + L)) own) l.initial.image l.n l.image

use Rattle.std.proofs.Common.{ℕ, ◌+◌, get_or}
use Rattle.lane.specs.Words.{Lane}
use Rattle.runner.proofs.Lanes.{Turned}
use Rattle.runner.specs.PrivateRows.{marked}
use Rattle.runner.specs.PrivateSwap.{stored_under}
use Rattle.runner.proofs.swap.store_part.Given as goal

abbrev pub invariant-loop-n : goal.invariant-loop-n
invariant-loop-n l = Turned (λ (L : ℕ) (own : Lane). stored_under l.p (marked l.t (l.a + L)) (get_or l.words L 0)) l.initial.image l.n l.image

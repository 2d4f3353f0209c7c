use Rattle.std.proofs.Common.{ℕ, get_or}
use Rattle.lane.specs.Words.{Lane}
use Rattle.runner.proofs.Lanes.{Turned}
use Rattle.runner.specs.PrivateCompute.{flagged_with}
use Rattle.runner.specs.PrivateRows.{Enabled}
use Rattle.runner.proofs.compute.flagged_rows.Given as goal

abbrev pub invariant-loop-n : goal.invariant-loop-n
invariant-loop-n l = Turned (λ (L : ℕ) (own : Lane). flagged_with l.op l.i l.sets (get_or l.b L 0) (get_or l.c L 0) own) l.initial.image l.n l.image × Enabled l.go l.image

use Rattle.std.proofs.Common.{◌/◌, ◌≤◌, length}
use Rattle.runner.proofs.Steps.{Reached}
use Rattle.runner.proofs.run.step_list.Given as goal

abbrev pub invariant-loop-k : goal.invariant-loop-k
invariant-loop-k l = (l.k ≤ length l.list / 6) × Reached l.s l.list l.initial.dst l.initial.image l.cursor l.k l.at l.image l.dst l.go l.counts.ties l.counts.stores l.owed

use Rattle.std.proofs.Common.{◌≡◌, ◌-◌, ◌/◌, ◌≤◌, length}
use Rattle.runner.specs.Checks.{scan}
use Rattle.runner.proofs.checks.scanned.Given as goal

abbrev pub invariant-loop-k : goal.invariant-loop-k
invariant-loop-k l = (l.k ≤ length l.list / 6) × (scan l.list 0 (length l.list / 6) ≡ scan l.list l.k (length l.list / 6 - l.k))

use Rattle.std.proofs.Common.{ℕ}
use Rattle.lane.specs.Words.{enabled}
use Rattle.runner.proofs.Filled.{Spread}
use Rattle.runner.specs.Image.{lane_in}
use Rattle.runner.specs.PrivateRows.{full}
use Rattle.runner.proofs.rows.enabled_row.Given as goal

abbrev pub invariant-loop-n : goal.invariant-loop-n
invariant-loop-n l = Spread (λ (L : ℕ). full (enabled (lane_in l.image L))) 128 128 l.n l.go

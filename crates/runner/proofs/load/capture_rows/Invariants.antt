use Rattle.std.proofs.Common.{ℕ, ◌+◌, ◌*◌, ◌%◌, get_or}
use Rattle.lane.specs.Words.{Lane}
use Rattle.runner.proofs.Filled.{Filled}
use Rattle.runner.proofs.Lanes.{Turned}
use Rattle.runner.specs.PrivateLoad.{is_caught, captured_only}
use Rattle.runner.specs.PrivateRows.{full}
use Rattle.runner.proofs.load.capture_rows.Given as goal

abbrev pub invariant-loop-n : goal.invariant-loop-n
invariant-loop-n l = Turned (λ (L : ℕ) (own : Lane). captured_only l.vd (l.first + 2 * L + get_or l.odds L 0 % 2) own) l.initial.image l.n l.image × Filled (λ (L : ℕ). full (is_caught l.vd l.initial.image L)) l.n l.caught

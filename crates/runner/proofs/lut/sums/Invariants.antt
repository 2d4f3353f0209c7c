use Rattle.std.proofs.Common.{ℕ, get_or}
use Rattle.lane.specs.Lut.{piece_of, sum_of}
use Rattle.runner.proofs.LutRows.{Floats}
use lib.Ieee.{nan}
use Rattle.runner.proofs.lut.sums.Given as goal

abbrev pub invariant-loop-n : goal.invariant-loop-n
invariant-loop-n l = Floats (λ (L : ℕ). sum_of (piece_of (get_or l.k L 0)) (get_or l.b L nan)) l.n l.x

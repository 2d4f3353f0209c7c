use Rattle.std.proofs.Common.{ℕ}
use Rattle.lane.specs.Lut.{input_of}
use Rattle.runner.proofs.LutRows.{Floats}
use Rattle.runner.specs.Image.{lane_in}
use Rattle.runner.proofs.lut.inputs.Given as goal

abbrev pub invariant-loop-n : goal.invariant-loop-n
invariant-loop-n l = Floats (λ (L : ℕ). input_of (lane_in l.image L 3)) l.n l.b

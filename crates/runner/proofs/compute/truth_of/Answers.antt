use Rattle.lane.specs.Words.{pick}
use Rattle.runner.specs.PrivateCompute.{truth_of}
use Rattle.std.proofs.Common.{eq-eqb, ne_eqb}
use Rattle.runner.proofs.compute.truth_of.Goals as goal

pub returns-then-op-eq-LZ : goal.returns-then-op-eq-LZ
unfolding truth_of pick
returns-then-op-eq-LZ c = simp (eq-eqb _ _ c.if-op-eq-LZ.true)

pub returns-else-op-eq-LZ : goal.returns-else-op-eq-LZ
unfolding truth_of pick
returns-else-op-eq-LZ c = simp (ne_eqb _ _ c.if-op-eq-LZ.false)

use Rattle.runner.proofs.Filled.{operand}
use Rattle.runner.proofs.lut.results.Goals as goal

pub returns : goal.returns
returns c = λ L l. rw (operand _ _ c.served-k.ensures L l, c.inputs-b.ensures L l) at (c.sums.ensures L l)

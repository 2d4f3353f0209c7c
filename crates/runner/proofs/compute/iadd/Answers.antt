use Rattle.runner.proofs.ComputeRows.{iadd_rows}
use Rattle.runner.proofs.Lanes.{storing_none}
use Rattle.runner.proofs.Operands.{no_iadd}
use Rattle.runner.specs.Image.{lane_in}
use Rattle.std.proofs.Common.{sym}
use Rattle.runner.proofs.compute.iadd.Goals as goal

pub returns-then-i-eq1 : goal.returns-then-i-eq1
returns-then-i-eq1 c = (iadd_rows _ _ _ _ c.source-c.ensures c.if-i-lt8.true c.flagged_rows.ensures.0, c.flagged_rows.ensures.1)

pub returns-then-i-eq1-2 : goal.returns-then-i-eq1-2
returns-then-i-eq1-2 c = (iadd_rows _ _ _ _ c.source-c.ensures c.if-i-lt8.true c.flagged_rows-then-i-eq1-2.ensures.0, c.flagged_rows-then-i-eq1-2.ensures.1)

pub returns-else-i-eq1-2 : goal.returns-else-i-eq1-2
returns-else-i-eq1-2 c = (iadd_rows _ _ _ _ c.source-c.ensures c.if-i-lt8.true c.flagged_rows-else-i-eq1-2.ensures.0, c.flagged_rows-else-i-eq1-2.ensures.1)

pub returns-else-i-lt8 : goal.returns-else-i-lt8
returns-else-i-lt8 c = (sym (storing_none _ _ c.told-image (λ L l. no_iadd c.args.i L (lane_in c.args.image.now L) c.if-i-lt8.false)), c.requires)

use Rattle.runner.proofs.ComputeRows.{exexp_rows}
use Rattle.runner.proofs.Lanes.{storing_none}
use Rattle.runner.proofs.Operands.{no_exexp}
use Rattle.runner.specs.Image.{lane_in}
use Rattle.std.proofs.Common.{sym}
use Rattle.runner.proofs.compute.exexp.Goals as goal

pub returns-then-i-eq1 : goal.returns-then-i-eq1
returns-then-i-eq1 c = (exexp_rows _ _ _ _ c.source-c.ensures c.flagged_rows.ensures.0, c.flagged_rows.ensures.1)

pub returns-else-i-eq1 : goal.returns-else-i-eq1
returns-else-i-eq1 c = (exexp_rows _ _ _ _ c.source-c.ensures c.flagged_rows-else-i-eq1.ensures.0, c.flagged_rows-else-i-eq1.ensures.1)

pub returns-else-i-lt8 : goal.returns-else-i-lt8
returns-else-i-lt8 c = (sym (storing_none _ _ c.told-image (λ L l. no_exexp c.args.i L (lane_in c.args.image.now L) c.if-i-lt8.false)), c.requires)

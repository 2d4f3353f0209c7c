use Rattle.runner.proofs.Enabled.{enabled_more}
use Rattle.runner.proofs.Lanes.{turn_start, turn_more, turn_end}
use Rattle.runner.proofs.compute.flagged_rows.Goals as goal

pub loop-n-init : goal.loop-n-init
loop-n-init c = (turn_start _ _ c.told-image, c.requires.enabled)

pub loop-n-preserved : goal.loop-n-preserved
loop-n-preserved c = (turn_more _ _ _ _ _ c.told-image c.loop-n-test.true c.loop-n.invariant.0 c.flagged_put.ensures.0, enabled_more _ _ _ _ _ _ c.loop-n-test.true c.loop-n.invariant.1 c.flagged_put.ensures.0 c.flagged_put.ensures.1)

pub returns : goal.returns
returns c = (turn_end _ _ _ _ c.loop-n-test.false c.loop-n.invariant.0, c.loop-n.invariant.1)

use Rattle.runner.proofs.Enabled.{enabled_turn}
use Rattle.runner.proofs.Lanes.{turn_start, turn_more, turn_end}
use Rattle.runner.proofs.compute.word_rows.Goals as goal

pub loop-n-init : goal.loop-n-init
loop-n-init c = turn_start _ _ c.told-image

pub word_put-requires-clause-mask : goal.word_put-requires-clause-mask
word_put-requires-clause-mask c = enabled_turn _ _ _ _ _ c.told-image c.loop-n-test.true c.requires.enabled c.loop-n.invariant

pub loop-n-preserved : goal.loop-n-preserved
loop-n-preserved c = turn_more _ _ _ _ _ c.told-image c.loop-n-test.true c.loop-n.invariant c.word_put.ensures

pub returns : goal.returns
returns c = turn_end _ _ _ _ c.loop-n-test.false c.loop-n.invariant

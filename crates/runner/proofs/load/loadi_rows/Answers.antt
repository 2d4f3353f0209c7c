use Rattle.lane.specs.Words.{enabled}
use Rattle.runner.proofs.Lanes.{turn_start, turn_end}
use Rattle.runner.proofs.LoadRows.{masked_turn, loadi_made}
use Rattle.runner.proofs.load.loadi_rows.Goals as goal

pub loop-n-init : goal.loop-n-init
loop-n-init c = turn_start _ _ c.told-image

pub loop-n-preserved : goal.loop-n-preserved
loop-n-preserved c = masked_turn _ enabled _ _ _ _ _ _ _ c.told-image c.loop-n-test.true c.loop-n.invariant (c.requires.enabled.mask_is _ c.loop-n-test.true) c.put.ensures (loadi_made _ _ _ _ c.requires.vd c.immediate-word.ensures c.word_at.ensures)

pub returns : goal.returns
returns c = turn_end _ _ _ _ c.loop-n-test.false c.loop-n.invariant

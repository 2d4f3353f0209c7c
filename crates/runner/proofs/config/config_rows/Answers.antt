use Rattle.runner.proofs.ConfigRows.{reached_at}
use Rattle.runner.proofs.Lanes.{turn_start, turn_more, turn_end}
use Rattle.runner.proofs.config.config_rows.Goals as goal

pub loop-n-init : goal.loop-n-init
loop-n-init c = turn_start _ _ c.told-image

pub loop-n-preserved : goal.loop-n-preserved
loop-n-preserved c = turn_more _ _ _ _ _ c.told-image c.loop-n-test.true c.loop-n.invariant (rw (c.written-word.ensures, c.word_at.ensures) at (c.put.ensures _ (reached_at _ _ _ c.requires.masks _ c.loop-n-test.true)))

pub returns : goal.returns
returns c = turn_end _ _ _ _ c.loop-n-test.false c.loop-n.invariant

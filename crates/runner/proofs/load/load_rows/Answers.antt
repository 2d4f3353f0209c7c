use Rattle.runner.proofs.Filled.{operand}
use Rattle.runner.proofs.Lanes.{turn_start, turn_end}
use Rattle.runner.proofs.LoadRows.{masked_turn, load_made}
use Rattle.runner.specs.PrivateLoad.{is_open, open_in}
use Rattle.runner.proofs.load.load_rows.Goals as goal

pub loop-n-init : goal.loop-n-init
loop-n-init c = turn_start _ _ c.told-image

pub loop-n-preserved : goal.loop-n-preserved
unfolding open_in
loop-n-preserved c = masked_turn _ is_open _ _ _ _ _ _ _ c.told-image c.loop-n-test.true c.loop-n.invariant (operand _ _ c.requires.opens _ c.loop-n-test.true) c.put.ensures (load_made _ _ _ _ _ _ _ c.requires.vd c.loaded-word.ensures c.word_at.ensures c.word_at-in-loop-n.ensures)

pub returns : goal.returns
returns c = turn_end _ _ _ _ c.loop-n-test.false c.loop-n.invariant

use Rattle.std.proofs.Common.{arith}
use Rattle.runner.proofs.Lanes.{turn_start, turn_more, turn_end}
use Rattle.runner.proofs.SwapRows.{store_in}
use Rattle.runner.proofs.swap.store_part.Goals as goal

pub loop-n-init : goal.loop-n-init
loop-n-init c = turn_start _ _ c.told-image

pub loop-n-preserved : goal.loop-n-preserved
loop-n-preserved c = turn_more _ _ _ _ _ c.told-image c.loop-n-test.true c.loop-n.invariant (store_in _ _ c.args.words.now _ _ _ _ c.requires.masks (omega (arith, c.loop-n-test.true, c.requires.a)) c.put.ensures)

pub returns : goal.returns
returns c = turn_end _ _ _ _ c.loop-n-test.false c.loop-n.invariant

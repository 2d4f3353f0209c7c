use Rattle.std.proofs.Common.{arith}
use Rattle.runner.proofs.Lanes.{turn_start, turn_more, turn_end}
use Rattle.runner.proofs.SwapRows.{exchange_in}
use Rattle.runner.proofs.swap.exchange.Goals as goal

pub loop-n-init : goal.loop-n-init
loop-n-init c = turn_start _ _ c.told-image

pub loop-n-preserved : goal.loop-n-preserved
loop-n-preserved c = turn_more _ _ _ _ _ c.told-image c.loop-n-test.true c.loop-n.invariant (exchange_in _ _ _ _ _ _ _ _ _ _ _ _ _ c.requires.masks c.requires.differ (omega (arith, c.loop-n-test.true, c.requires.a)) (omega (arith, c.loop-n-test.true, c.requires.b)) c.word_at-x.ensures c.word_at-y.ensures c.masked.ensures c.masked-in-loop-n.ensures c.put.ensures c.put-in-loop-n.ensures)

pub returns : goal.returns
returns c = turn_end _ _ _ _ c.loop-n-test.false c.loop-n.invariant

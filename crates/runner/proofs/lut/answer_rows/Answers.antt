use Rattle.runner.proofs.Lanes.{turn_start, turn_more, turn_end}
use Rattle.runner.proofs.LutRows.{all_ones, put_all}
use Rattle.runner.proofs.lut.answer_rows.Goals as goal

pub loop-n-init : goal.loop-n-init
loop-n-init c = turn_start _ _ c.told-image

pub loop-n-preserved : goal.loop-n-preserved
loop-n-preserved c = turn_more _ _ _ _ _ c.told-image c.loop-n-test.true c.loop-n.invariant (put_all _ _ _ _ (rw (c.answer_word-word.ensures, c.lut_answer-answer.ensures) at (c.put.ensures _ all_ones)))

pub returns : goal.returns
returns c = turn_end _ _ _ _ c.loop-n-test.false c.loop-n.invariant

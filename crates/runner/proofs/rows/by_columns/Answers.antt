use Rattle.runner.proofs.ConfigRows.{column_more, column_end}
use Rattle.runner.proofs.rows.by_columns.Goals as goal

pub loop-j-preserved : goal.loop-j-preserved
loop-j-preserved g c = λ w h. column_more w _ _ _ c.loop-j-test.true (c.loop-j.invariant w h) (h _ _ c.loop-j-test.true c.word-value.ensures)

pub returns : goal.returns
returns g c = λ w h. column_end w _ _ c.loop-j-test.false (c.loop-j.invariant w h)

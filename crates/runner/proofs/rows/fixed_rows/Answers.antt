use Rattle.std.proofs.Common.{◌+◌, ◌∙◌, arith}
use Rattle.lane.specs.Words.{pick}
use Rattle.runner.proofs.Filled.{rows_more, spread_end}
use Rattle.runner.proofs.Operands.{fixed_place}
use Rattle.runner.specs.PrivateRows.{fixed_rows}
use Rattle.runner.proofs.rows.fixed_rows.Goals as goal

pub loop-n-preserved : goal.loop-n-preserved
unfolding pick
loop-n-preserved c = let n = c.loop-n.n in let l = c.loop-n-test.true in rows_more _ n _ _ _ _ _ l c.loop-n.invariant (c.fixed_word.ensures ∙ fixed_place n 0 n (omega arith) (omega arith)) (c.fixed_word-in-loop-n.ensures ∙ fixed_place (32 + n) 1 n (omega arith) (omega arith)) (c.fixed_word-in-loop-n-2.ensures ∙ fixed_place (64 + n) 2 n (omega arith) (omega arith)) (c.fixed_word-in-loop-n-3.ensures ∙ fixed_place (96 + n) 3 n (omega arith) (omega arith))

pub returns : goal.returns
unfolding fixed_rows
returns c = spread_end _ 32 128 _ _ (λ p l. omega arith) c.loop-n.invariant

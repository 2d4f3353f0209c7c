use Rattle.std.proofs.Common.{[], ◌∷◌, rules}
use Rattle.lane.proofs.Stores.{then_made, choose_true, choose_none}
use Rattle.lane.specs.Compute.{word_and_flag}
use Rattle.lane.proofs.step.word_and_flag.Goals as goal

pub returns-then-computes : goal.returns-then-computes
unfolding word_and_flag
returns-then-computes c = let a = c.args in choose_true _ _ _ _ _ (rw c.is_enabled.ensures at c.if-computes.true) (then_made ((a.vd, a.word) ∷ []) ((13, a.flag) ∷ []) a.own c.put.result c.put-then-computes.result c.put.ensures c.put-then-computes.ensures)

pub returns-else-computes : goal.returns-else-computes
unfolding word_and_flag
returns-else-computes c = choose_none _ _ _ (rw c.is_enabled.ensures at c.if-computes.false) (search rules)

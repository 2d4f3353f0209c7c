use Rattle.lane.proofs.Cases.{if_true, if_false}
use Rattle.lane.specs.Refusals.{pass}
use Rattle.runner.specs.Walk.{last_answer}
use Rattle.std.proofs.Common.{refl}
use Rattle.runner.proofs.walk.last_answer.Goals as goal

pub returns-then-k-list : goal.returns-then-k-list
unfolding last_answer pass
returns-then-k-list c = if_true _ _ _ _ c.if-k-list.true refl

pub returns : goal.returns
unfolding last_answer pass
returns c = if_false _ _ _ _ c.if-k-list.false refl

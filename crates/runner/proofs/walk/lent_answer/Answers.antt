use Rattle.lane.proofs.Cases.{if_eq, if_ne, if_lt, if_ge}
use Rattle.lane.specs.Refusals.{pass}
use Rattle.runner.specs.Walk.{lent_answer}
use Rattle.std.proofs.Common.{refl}
use Rattle.runner.proofs.walk.lent_answer.Goals as goal

pub returns-then-image-ne768 : goal.returns-then-image-ne768
unfolding lent_answer pass
returns-then-image-ne768 c = if_ne _ _ _ _ _ c.if-image-ne768.true refl

pub returns-then-dst-ne16384 : goal.returns-then-dst-ne16384
unfolding lent_answer pass
returns-then-dst-ne16384 c = if_eq _ _ _ _ _ c.if-image-ne768.false (if_ne _ _ _ _ _ c.if-dst-ne16384.true refl)

pub returns-then-cursor-ge1024 : goal.returns-then-cursor-ge1024
unfolding lent_answer pass
returns-then-cursor-ge1024 c = if_eq _ _ _ _ _ c.if-image-ne768.false (if_eq _ _ _ _ _ c.if-dst-ne16384.false (if_ge _ _ _ _ _ c.if-cursor-ge1024.true refl))

pub returns : goal.returns
unfolding lent_answer pass
returns c = if_eq _ _ _ _ _ c.if-image-ne768.false (if_eq _ _ _ _ _ c.if-dst-ne16384.false (if_lt _ _ _ _ _ c.if-cursor-ge1024.false c.first_answer.ensures))

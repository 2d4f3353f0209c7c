use Rattle.std.proofs.Common.{◌/◌, length, refl, arith}
use Rattle.lane.proofs.Cases.{if_true, if_false}
use Rattle.lane.specs.Refusals.{pass}
use Rattle.runner.proofs.Walks.{under}
use Rattle.runner.specs.Walk.{next_answer}
use Rattle.runner.proofs.walk.next_answer.Goals as goal

pub insn_at-requires : goal.insn_at-requires
insn_at-requires c = let a = c.args in omega (arith, under a.at (length a.list.now / 6) _ c.if-k-list.true)

pub returns-then-k-list : goal.returns-then-k-list
unfolding next_answer pass
returns-then-k-list c = if_true _ _ _ _ c.if-k-list.true (rw c.insn_at.ensures at c.instruction_answer.ensures)

pub returns : goal.returns
unfolding next_answer pass
returns c = if_false _ _ _ _ c.if-k-list.false refl

use Rattle.std.proofs.Common.{not, refl, ap}
use Rattle.lane.proofs.Cases.{if_true, if_false}
use Rattle.lane.specs.Refusals.{instruction_answer, pass}
use Rattle.lane.proofs.refuse.instruction_answer.Goals as goal

pub returns-then-not-known : goal.returns-then-not-known
unfolding instruction_answer pass
returns-then-not-known c = if_false _ _ _ _ c.if-not-known.true refl

pub returns-then-not-good : goal.returns-then-not-good
unfolding instruction_answer pass
returns-then-not-good c = if_true _ _ _ _ c.if-not-known.false (if_false _ _ _ _ (rw c.fields_good.ensures at c.if-not-good.true) refl)

pub returns-then-is_wide_load : goal.returns-then-is_wide_load
unfolding instruction_answer pass
returns-then-is_wide_load c = if_true _ _ _ _ c.if-not-known.false (if_true _ _ _ _ (rw c.fields_good.ensures at c.if-not-good.false) (if_false _ _ _ _ (ap not (rw c.is_wide_load.ensures at c.if-is_wide_load.true)) refl))

pub returns : goal.returns
unfolding instruction_answer pass
returns c = if_true _ _ _ _ c.if-not-known.false (if_true _ _ _ _ (rw c.fields_good.ensures at c.if-not-good.false) (if_true _ _ _ _ (ap not (rw c.is_wide_load.ensures at c.if-is_wide_load.false)) refl))

use Rattle.lane.specs.Refusals.{pass}
use Rattle.lane.proofs.Cases.{if_true, if_false, if_le, if_gt, if_eq, if_ne}
use Rattle.runner.specs.Checks.{given_answer}
use Rattle.std.proofs.Common.{refl}
use Rattle.runner.proofs.checks.given_answer.Goals as goal

pub returns-then-not-settings_good : goal.returns-then-not-settings_good
unfolding given_answer pass
returns-then-not-settings_good c = if_false _ _ _ _ (rw c.settings_good.ensures at c.if-not-settings_good.true) refl

pub returns-then-list-ne0 : goal.returns-then-list-ne0
unfolding given_answer pass
returns-then-list-ne0 c = if_true _ _ _ _ (rw c.settings_good.ensures at c.if-not-settings_good.false) (if_ne _ _ _ _ _ c.if-list-ne0.true refl)

pub returns-then-list-gt-LIST_LIMIT : goal.returns-then-list-gt-LIST_LIMIT
unfolding given_answer pass
returns-then-list-gt-LIST_LIMIT c = if_true _ _ _ _ (rw c.settings_good.ensures at c.if-not-settings_good.false) (if_eq _ _ _ _ _ c.if-list-ne0.false (if_gt _ _ _ _ _ c.if-list-gt-LIST_LIMIT.true refl))

pub returns : goal.returns
unfolding given_answer pass
returns c = if_true _ _ _ _ (rw c.settings_good.ensures at c.if-not-settings_good.false) (if_eq _ _ _ _ _ c.if-list-ne0.false (if_le _ _ _ _ _ c.if-list-gt-LIST_LIMIT.false refl))

use Rattle.std.proofs.Common.{refl}
use Rattle.lane.proofs.Cases.{if_true, if_false}
use Rattle.lane.specs.Refusals.{lane_answer, pass}
use Rattle.lane.proofs.refuse.lane_answer.Goals as goal

pub returns-then-not-settings_good : goal.returns-then-not-settings_good
unfolding lane_answer pass
returns-then-not-settings_good c = if_false _ _ _ _ (rw c.settings_good.ensures at c.if-not-settings_good.true) refl

pub returns-then-not-good : goal.returns-then-not-good
unfolding lane_answer pass
returns-then-not-good c = if_true _ _ _ _ (rw c.settings_good.ensures at c.if-not-settings_good.false) (if_false _ _ _ _ (rw (c.lane_good.ensures, c.lane_good-2.ensures) at c.if-not-good.true) refl)

pub returns : goal.returns
unfolding lane_answer pass
returns c = if_true _ _ _ _ (rw c.settings_good.ensures at c.if-not-settings_good.false) (if_true _ _ _ _ (rw (c.lane_good.ensures, c.lane_good-2.ensures) at c.if-not-good.false) c.instruction_answer.ensures)

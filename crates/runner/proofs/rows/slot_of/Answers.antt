use Rattle.lane.proofs.Cases.{pick_true, pick_false}
use Rattle.std.proofs.Common.{sym, arith, le-ltb, lt-ltb}
use Rattle.runner.proofs.rows.slot_of.Goals as goal

pub returns-then-q-lt8 : goal.returns-then-q-lt8
returns-then-q-lt8 c = (omega arith, sym (pick_true _ _ _ (lt-ltb _ _ c.if-q-lt8.true)))

pub returns-else-q-lt8 : goal.returns-else-q-lt8
returns-else-q-lt8 c = (omega arith, sym (pick_false _ _ _ (le-ltb _ _ c.if-q-lt8.false)))

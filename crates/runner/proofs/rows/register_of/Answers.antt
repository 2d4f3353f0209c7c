use Rattle.lane.proofs.Cases.{pick_true, pick_false}
use Rattle.runner.specs.PrivateRows.{register_of}
use Rattle.std.proofs.Common.{sym, arith, le-ltb, lt-ltb}
use Rattle.runner.proofs.rows.register_of.Goals as goal

pub returns-then-r-lt16 : goal.returns-then-r-lt16
unfolding register_of
returns-then-r-lt16 c = (c.if-r-lt16.true, sym (pick_true _ _ _ (lt-ltb _ _ c.if-r-lt16.true)))

pub returns-else-r-lt16 : goal.returns-else-r-lt16
unfolding register_of
returns-else-r-lt16 c = (omega arith, sym (pick_false _ _ _ (le-ltb _ _ c.if-r-lt16.false)))

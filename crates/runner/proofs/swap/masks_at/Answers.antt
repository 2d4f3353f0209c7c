use Rattle.lane.proofs.Cases.{pick_true, pick_false}
use Rattle.runner.specs.PrivateSwap.{masks_at}
use Rattle.std.proofs.Common.{sym, arith, le-ltb, lt-ltb}
use Rattle.runner.proofs.swap.masks_at.Goals as goal

pub returns-then-r-lt4 : goal.returns-then-r-lt4
unfolding masks_at
returns-then-r-lt4 c = (omega arith, sym (pick_true _ _ _ (lt-ltb _ _ c.if-r-lt4.true)))

pub returns-else-r-lt4 : goal.returns-else-r-lt4
unfolding masks_at
returns-else-r-lt4 c = (omega arith, sym (pick_false _ _ _ (le-ltb _ _ c.if-r-lt4.false)))

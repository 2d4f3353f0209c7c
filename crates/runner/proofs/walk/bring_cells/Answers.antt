use Rattle.lane.proofs.Cases.{if_eq, if_ne}
use Rattle.runner.specs.Walk.{dst_back}
use Rattle.std.proofs.Common.{refl}
use Rattle.runner.proofs.walk.bring_cells.Goals as goal

pub returns-then-op-eq-STORE : goal.returns-then-op-eq-STORE
unfolding dst_back
returns-then-op-eq-STORE c = if_eq _ _ _ _ _ c.if-op-eq-STORE.true c.put_cells.ensures

pub returns-else-op-eq-STORE : goal.returns-else-op-eq-STORE
unfolding dst_back
returns-else-op-eq-STORE c = if_ne _ _ _ _ _ c.if-op-eq-STORE.false refl

use Rattle.runner.proofs.Counts.{room_less}
use Rattle.runner.proofs.SwapRows.{room_exchanged, room_to, all_counted}
use Rattle.std.proofs.Common.{arith}
use Rattle.runner.proofs.swap.count_swaps.Goals as goal

pub count_to-requires-clause-stores : goal.count_to-requires-clause-stores
count_to-requires-clause-stores c = let a = c.args in room_less 4 16 _ (omega arith) (room_exchanged a.t.now a.stores.now _ c.requires.stores c.count_exchanges.ensures)

pub count_to-requires-2-clause-stores : goal.count_to-requires-2-clause-stores
count_to-requires-2-clause-stores c = let a = c.args in room_to a.i.vc a.t.now _ _ (room_exchanged a.t.now a.stores.now _ c.requires.stores c.count_exchanges.ensures) c.count_to.ensures

pub returns : goal.returns
returns c = let a = c.args in all_counted a.i a.t.now a.stores.now _ _ _ c.count_exchanges.ensures c.count_to.ensures c.count_to-2.ensures

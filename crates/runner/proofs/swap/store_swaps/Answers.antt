use Rattle.runner.proofs.SwapRows.{are_masks, swap_made, swap_same, exchange_skipped}
use Rattle.std.proofs.Common.{rules}
use Rattle.runner.proofs.swap.store_swaps.Goals as goal

pub returns-then-i : goal.returns-then-i
returns-then-i c = swap_same _ _ c.told-image c.if-i.true

pub store_both-requires-clause-masks : goal.store_both-requires-clause-masks
store_both-requires-clause-masks c = are_masks _ _ _ _ c.requires.rows

pub exchange-requires-clause-masks : goal.exchange-requires-clause-masks
exchange-requires-clause-masks c = are_masks _ _ _ _ c.requires.rows

pub returns-then-exchanges : goal.returns-then-exchanges
returns-then-exchanges c = swap_made c.args.image.now _ _ _ c.args.i c.requires.c c.requires.d c.requires.rows _ _ c.store_both.ensures c.exchange.ensures

pub returns-else-exchanges : goal.returns-else-exchanges
returns-else-exchanges c = swap_made c.args.image.now _ _ _ c.args.i c.requires.c c.requires.d c.requires.rows _ _ c.store_both.ensures (exchange_skipped _ _ _ _ _ (search rules) c.if-exchanges.false c.requires.seen)

use Rattle.runner.proofs.SwapRows.{are_masks, swap_enabled, swap_counted}
use Rattle.runner.proofs.swap.swap.Goals as goal

pub count_swaps-requires-clause-masks : goal.count_swaps-requires-clause-masks
count_swaps-requires-clause-masks c = are_masks _ _ _ _ c.masks_of-seen.ensures.0

pub returns : goal.returns
returns c = let a = c.args in let ec = c.source-c.ensures in let ed = c.source-d.ensures in let et = c.masks_of-seen.ensures.0 in (c.store_swaps.ensures, (swap_enabled a.image.now _ _ _ a.i ec ed et _ c.store_swaps.ensures, (c.count_ties.ensures, swap_counted a.image.now _ _ _ a.i ec ed et _ _ c.count_swaps.ensures)))

use Rattle.runner.proofs.StoreRows.{odds_masks}
use Rattle.runner.proofs.Walks.{every_masks, cells_back}
use Rattle.std.proofs.Common.{rules}
use Rattle.runner.proofs.walk.put_cells.Goals as goal

pub store_rows-requires-clause-odds : goal.store_rows-requires-clause-odds
store_rows-requires-clause-odds c = odds_masks _ _ _ c.odd_row-odds.ensures

pub store_rows-requires-clause-go : goal.store_rows-requires-clause-go
store_rows-requires-clause-go c = every_masks

pub returns : goal.returns
returns c =
    let a = c.args in
    cells_back a.dst.now _ a.entry.now a.image.now _ _ _ c.requires (search rules) c.copied-words.ensures c.odd_row-odds.ensures c.store_rows.ensures

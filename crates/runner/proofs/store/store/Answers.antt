use Rattle.runner.proofs.StoreRows.{odds_masks, go_masks, store_made}
use Rattle.runner.proofs.store.store.Goals as goal

pub store_by_mod-requires-clause-odds : goal.store_by_mod-requires-clause-odds
store_by_mod-requires-clause-odds c = let a = c.args in odds_masks a.image.now _ a.a c.odd_row-odds.ensures

pub store_by_mod-requires-clause-go : goal.store_by_mod-requires-clause-go
store_by_mod-requires-clause-go c = let a = c.args in go_masks a.image.now _ c.requires.enabled

pub returns : goal.returns
returns c =
    let a = c.args in
    store_made a.image.now _ _ _ _ a.go.now a.a a.i c.store_by_mod.ensures c.source-words.ensures c.odd_row-odds.ensures c.requires.enabled

use Rattle.lane.specs.Words.{build}
use Rattle.runner.proofs.Walks.{kept_store, kept_none}
use Rattle.runner.proofs.walk.kept_cells.Goals as goal

pub returns-then-op-eq-STORE : goal.returns-then-op-eq-STORE
returns-then-op-eq-STORE c =
    let a = c.args in
    kept_store a.op a.a a.image.now a.dst.now _ _ c.if-op-eq-STORE.true c.odd_row-odds.ensures c.cells.ensures

pub returns : goal.returns
unfolding build
returns c = kept_none _ _ _ _ c.if-op-eq-STORE.false

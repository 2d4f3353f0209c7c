use Rattle.std.proofs.Common.{arith, rules}
use Rattle.runner.proofs.Dsts.{cell_end}
use Rattle.runner.proofs.StoreRows.{store_turn}
use Rattle.runner.proofs.store.store_rows.Goals as goal

pub loop-n-preserved : goal.loop-n-preserved
loop-n-preserved c =
    let a = c.args in (
      omega arith,
      store_turn a.m a.words.now a.odds.now a.go.now a.dst.now a.a c.told-dst c.requires.address
          (λ k. omega (arith, c.fits-dst k)) c.requires.odds c.requires.go
          _ _ _ _ _ _ c.loop-n-test.true (search rules) c.pairs_of-old.ensures c.loop-n.invariant.1 c.stored_cell-cell.ensures c.pair_after-both.ensures
          c.put_pair.ensures,
    )

pub returns : goal.returns
returns c = cell_end _ _ _ _ _ (omega arith) c.told-dst c.loop-n.invariant.1

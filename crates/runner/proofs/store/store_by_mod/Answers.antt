use Rattle.std.proofs.Common.{arith}
use Rattle.runner.proofs.StoreRows.{low_mod}
use Rattle.runner.proofs.store.store_by_mod.Goals as goal

pub returns-in_default : goal.returns-in_default
returns-in_default c = let a = c.args in low_mod _ _ a.words.now a.odds.now a.go.now a.a _ c.store_rows-in_default.ensures (omega arith) (omega arith)

use Rattle.std.proofs.Common.{rules}
use Rattle.runner.proofs.StoreRows.{opened_is}
use Rattle.runner.proofs.store.pair_after.Goals as goal

pub returns : goal.returns
returns c = λ s t p q. opened_is _ _ _ _ (search rules) (search rules) s t p q

use Rattle.std.proofs.Common.{[], ◌∷◌, ◌++◌}
use Rattle.lane.proofs.Stores.{then_made}
use Rattle.lane.specs.Swap.{below, index_of, index_swap}
use Rattle.lane.specs.Words.{Stores}
use Rattle.lane.proofs.step.index_swap.Goals as goal

pub returns : goal.returns
unfolding index_swap
returns c = let a = c.args in let y : Stores = (index_of a.vc, a.y) ∷ [] in let x : Stores = (index_of a.vd, a.x) ∷ [] in then_made (below 4 a.vc a.d) (below 4 a.vd a.c ++ (y ++ x)) a.own c.put_below.result c.put-2.result c.put_below.ensures (then_made (below 4 a.vd a.c) (y ++ x) c.put_below.result c.put_below-stored.result c.put-2.result c.put_below-stored.ensures (then_made y x c.put_below-stored.result c.put.result c.put-2.result c.put.ensures c.put-2.ensures))

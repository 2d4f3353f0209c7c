use Rattle.lane.proofs.Stores.{then_made}
use Rattle.lane.specs.Swap.{below, plain_swap}
use Rattle.lane.proofs.step.plain_swap.Goals as goal

pub returns : goal.returns
unfolding plain_swap
returns c = let a = c.args in then_made (below 8 a.vc a.d) (below 8 a.vd a.c) a.own c.put_below.result c.put_below-2.result c.put_below.ensures c.put_below-2.ensures

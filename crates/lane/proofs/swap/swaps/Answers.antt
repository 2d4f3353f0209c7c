use Rattle.lane.proofs.Ranks.{swaps_is}
use Rattle.lane.proofs.swap.swaps.Goals as goal

pub returns : goal.returns
returns c = rw (c.is_below.ensures, c.compared.ensures) (swaps_is _ _ _ _ _)

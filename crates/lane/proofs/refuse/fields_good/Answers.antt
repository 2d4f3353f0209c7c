use Rattle.lane.specs.Refusals.{fields_good, limits_of}
use Rattle.lane.proofs.refuse.fields_good.Goals as goal

pub returns : goal.returns
unfolding fields_good limits_of
returns c = simp (c.mod_allowed.ensures, c.limits_of-limits.ensures)

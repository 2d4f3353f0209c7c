use Rattle.lane.proofs.Cases.{byte_is}
use Rattle.lane.specs.Load.{place_of}
use Rattle.lane.proofs.load.place.Goals as goal

pub returns : goal.returns
unfolding place_of
returns c = simp byte_is

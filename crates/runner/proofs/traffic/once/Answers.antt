use Rattle.lane.proofs.Cases.{byte_is}
use Rattle.runner.proofs.traffic.once.Goals as goal

pub returns : goal.returns
returns c = byte_is _

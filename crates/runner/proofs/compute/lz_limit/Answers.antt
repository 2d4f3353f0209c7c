use Rattle.runner.specs.PrivateCompute.{lz_limit}
use Rattle.std.proofs.Common.{refl}
use Rattle.runner.proofs.compute.lz_limit.Goals as goal

pub returns : goal.returns
unfolding lz_limit
returns c = refl

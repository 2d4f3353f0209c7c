use Rattle.std.proofs.Common.{rules}
use Rattle.runner.specs.PrivateConfig.{reached, reached_in}
use Rattle.runner.proofs.config.reached_masks.Goals as goal

pub returns : goal.returns
unfolding reached_in reached
returns c = search rules

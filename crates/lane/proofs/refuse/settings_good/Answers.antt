use Rattle.std.proofs.Common.{rules}
use Rattle.lane.proofs.Cases.{cases}
use Rattle.lane.specs.Refusals.{settings_good}
use Rattle.lane.proofs.refuse.settings_good.Goals as goal

pub returns : goal.returns
unfolding settings_good
returns c = search (rules, cases) depth 12

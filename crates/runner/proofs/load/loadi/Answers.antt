use Rattle.runner.proofs.Lanes.{storing_none}
use Rattle.runner.proofs.LoadRows.{no_loadi}
use Rattle.runner.specs.Image.{lane_in}
use Rattle.std.proofs.Common.{sym}
use Rattle.runner.proofs.load.loadi.Goals as goal

pub returns-else-i-lt8 : goal.returns-else-i-lt8
returns-else-i-lt8 c = sym (storing_none _ _ c.told-image (λ L l. no_loadi c.args.i (lane_in c.args.image.now L) c.if-i-lt8.false))

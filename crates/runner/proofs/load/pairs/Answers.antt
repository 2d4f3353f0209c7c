use Rattle.std.proofs.Common.{arith}
use Rattle.runner.proofs.Filled.{spread_end}
use Rattle.runner.proofs.load.pairs.Goals as goal

pub returns : goal.returns
returns c = spread_end _ 64 64 _ _ (λ p l. omega arith) c.loop-k.invariant

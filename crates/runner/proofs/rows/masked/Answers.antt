use Rattle.runner.proofs.Masks.{masked_is}
use Rattle.std.proofs.Common.{rules}
use Rattle.runner.proofs.rows.masked.Goals as goal

pub returns : goal.returns
returns c = masked_is _ _ _ (search rules) (search rules)

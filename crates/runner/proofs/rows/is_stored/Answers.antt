use Rattle.runner.proofs.Operands.{stored_bit}
use Rattle.runner.proofs.rows.is_stored.Goals as goal

pub returns : goal.returns
returns c = stored_bit _ c.requires

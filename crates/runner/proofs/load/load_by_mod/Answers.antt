use Rattle.std.proofs.Common.{arith}
use Rattle.runner.proofs.LoadRows.{no_mod}
use Rattle.runner.proofs.load.load_by_mod.Goals as goal

pub returns-in_default : goal.returns-in_default
returns-in_default c = no_mod _ _ c.args.got.now c.args.vd _ c.load_rows-in_default.ensures (omega arith) (omega arith) (omega arith) (omega arith) (omega arith) (omega arith) (omega arith) (omega arith) (omega arith) (omega arith)

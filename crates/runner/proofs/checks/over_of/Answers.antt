use Rattle.std.proofs.Common.{◌≡◌, ◌%◌, arith}
use Rattle.runner.specs.PrivateQuick.{over_of}
use Rattle.runner.proofs.checks.over_of.Goals as goal

pub returns-in_default : goal.returns-in_default
unfolding over_of
returns-in_default c = let e : c.args.op % 32 ≡ 0 = omega arith in simp (e, c.over_row-in_default.ensures)

use Rattle.runner.proofs.Quick.{plain_exact}
use Rattle.runner.specs.PrivateQuick.{none_over}
use Rattle.std.proofs.Common.{rules}
use Rattle.runner.proofs.checks.accepts.Goals as goal

pub returns : goal.returns
unfolding none_over
returns c = rw (← (plain_exact c.args.i (record { op = search rules; imm = search rules; vb = search rules; vc = search rules; vd = search rules; md = search rules }))) (simp (c.over_of-o.ensures, c.pair.ensures, c.pair-2.ensures, c.pair-3.ensures, c.mod_place.ensures.1))

use Rattle.runner.specs.PrivateQuick.{over}
use Rattle.runner.proofs.checks.over_row.Goals as goal

pub returns : goal.returns
unfolding over
returns c = simp (c.pair.ensures, c.pair-2.ensures, c.pair-3.ensures)

use Rattle.lane.specs.Words.{pick}
use Rattle.runner.specs.PrivateRows.{full}
use Rattle.runner.proofs.rows.full.Goals as goal

pub returns-then-test : goal.returns-then-test
unfolding full pick
returns-then-test c = simp c.if-test.true

pub returns-else-test : goal.returns-else-test
unfolding full pick
returns-else-test c = simp c.if-test.false

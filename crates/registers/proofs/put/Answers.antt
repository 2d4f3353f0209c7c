use mathlib.Core.Path.{sym}
use lib.ListN.{length}
use lib.Dec.{ltb}
use borrow.Author.Tests.{lt-ltb, le-ltb}
use Rattle.lane.proofs.Cases.{pick_true, pick_false}
use Rattle.runner.specs.Image.{register_count}
use Rattle.registers.specs.Put.{with_lane}
use Rattle.registers.proofs.put.Goals as goal

pub returns-then-lane-register_count : goal.returns-then-lane-register_count
unfolding with_lane
returns-then-lane-register_count c =
    let a = c.args in
    rw c.register_start-at.ensures
    (sym (pick_true (ltb a.lane (register_count (length a.image.now) a.r)) _ _ (lt-ltb _ _ (rw c.register_count.ensures at c.if-lane-register_count.true))))

pub returns-else-lane-register_count : goal.returns-else-lane-register_count
unfolding with_lane
returns-else-lane-register_count c =
    let a = c.args in
    sym (pick_false (ltb a.lane (register_count (length a.image.now) a.r)) _ _ (le-ltb _ _ (rw c.register_count.ensures at c.if-lane-register_count.false)))

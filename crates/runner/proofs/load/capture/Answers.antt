use Rattle.std.proofs.Common.{ℕ, ◌+◌, ◌*◌, ◌%◌, get_or}
use Rattle.runner.proofs.LoadRows.{caught_marks, uncaptured, none_counted}
use Rattle.runner.proofs.Tallied.{are_marks}
use Rattle.runner.specs.PrivateLoad.{is_caught}
use Rattle.runner.proofs.load.capture.Goals as goal

pub count_marked-requires-clause-masks : goal.count_marked-requires-clause-masks
count_marked-requires-clause-masks c = let a = c.args in are_marks c.capture_rows-caught.result 0 (is_caught a.vd a.image.now) (caught_marks a.vd a.image.now _ c.capture_rows-caught.ensures.1)

pub returns-then-vd-lt4 : goal.returns-then-vd-lt4
returns-then-vd-lt4 c = let a = c.args in (c.capture_rows-caught.ensures.0, c.count_marked.ensures (is_caught a.vd a.image.now) (caught_marks a.vd a.image.now _ c.capture_rows-caught.ensures.1))

pub returns-else-vd-lt4 : goal.returns-else-vd-lt4
returns-else-vd-lt4 c = let a = c.args in (uncaptured a.image.now a.vd (λ (L : ℕ). a.first + 2 * L + get_or a.odds.now L 0 % 2) c.told-image c.if-vd-lt4.false, none_counted a.image.now a.stores.now a.vd c.requires.stores.eight c.if-vd-lt4.false)

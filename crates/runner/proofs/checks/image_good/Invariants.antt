use Rattle.std.proofs.Common.{◌≡◌, ◌≤◌}
use Rattle.runner.proofs.Quick.{union}
use Rattle.runner.proofs.checks.image_good.Given as goal

abbrev pub invariant-loop-n : goal.invariant-loop-n
invariant-loop-n l = (l.n ≤ 32) × ((l.config ≡ union l.image 12 l.n) × ((l.flag ≡ union l.image 13 l.n) × ((l.uses ≡ union l.image 14 l.n) × (l.misc ≡ union l.image 23 l.n))))

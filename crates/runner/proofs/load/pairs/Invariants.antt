use Rattle.std.proofs.Common.{ℕ, ◌+◌, get_or}
use Rattle.runner.proofs.Filled.{Spread}
use Rattle.runner.proofs.load.pairs.Given as goal

abbrev pub invariant-loop-k : goal.invariant-loop-k
invariant-loop-k l = Spread (λ (p : ℕ). get_or l.dst (l.at + p) 0) 64 64 l.k l.both

use Rattle.std.proofs.Common.{ℕ, ◌+◌, get_or}
use Rattle.runner.proofs.Counts.{Counting}
use lib.Bits.{bit_and}
use Rattle.runner.proofs.traffic.count_enabled.Given as goal

abbrev pub invariant-loop-j : goal.invariant-loop-j
invariant-loop-j l = Counting (λ (L : ℕ). bit_and (get_or l.go (0 + L) 0) l.each) l.initial.stores l.j l.stores

use Rattle.std.proofs.Common.{ℕ, ◌+◌, ◌*◌}
use Rattle.lane.specs.Words.{flag_of}
use Rattle.runner.proofs.Counts.{Counting}
use Rattle.runner.specs.PrivateRows.{marked}
use Rattle.runner.proofs.traffic.count_marked.Given as goal

abbrev pub invariant-loop-j : goal.invariant-loop-j
invariant-loop-j l = Counting (λ (L : ℕ). l.each * flag_of (marked l.t (l.at + L))) l.initial.stores l.j l.stores

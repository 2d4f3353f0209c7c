use Rattle.std.proofs.Common.{ℕ, ◌/◌, ◌%◌}
use Rattle.lane.specs.Words.{fixed_word}
use Rattle.runner.proofs.Filled.{Spread}
use Rattle.runner.specs.PrivateRows.{fixed_register}
use Rattle.runner.proofs.rows.fixed_rows.Given as goal

abbrev pub invariant-loop-n : goal.invariant-loop-n
invariant-loop-n l = Spread (λ (k : ℕ). fixed_word (fixed_register (k / 32)) (k % 32)) 32 128 l.n l.rows

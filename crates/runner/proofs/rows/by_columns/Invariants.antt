use Rattle.std.proofs.Common.{◌≡◌, ℕ, ◌%◌, ◌<◌}
use Rattle.runner.proofs.Filled.{Spread}
use Rattle.runner.proofs.rows.by_columns.Given as goal

abbrev pub invariant-loop-j : goal.invariant-loop-j
invariant-loop-j g l = (w : ℕ → ℕ) → ((j v : ℕ) → j < 8 → goal.F-post g l.word j v → v ≡ w j) → Spread (λ (p : ℕ). w (p % 8)) 8 32 l.j l.words

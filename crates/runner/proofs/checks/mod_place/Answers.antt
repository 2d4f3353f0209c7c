use Rattle.std.proofs.Common.{◌≡◌, ℕ, ◌+◌, ◌%◌, ◌<◌, Bool, ap, arith}
use Rattle.lane.proofs.Cases.{pick_lt}
use Rattle.lane.specs.Words.{pick}
use Rattle.runner.proofs.checks.mod_place.Goals as goal

-- what is added
small : (t : Bool) (r : ℕ) → r ≡ pick t 0 16 → r < 17
small t r e = rw e (pick_lt t 0 16 17 (omega arith) (omega arith))

pub overflow_add-result : goal.overflow_add-result
overflow_add-result c = record { fits = omega (arith, small _ _ c.keep.ensures) }

pub returns : goal.returns
returns c = (omega arith, ap (λ (k : ℕ). (c.args.m % 32 + k) % 32) c.keep.ensures)

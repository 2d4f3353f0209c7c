use Rattle.std.proofs.Common.{◌≡◌, ℕ, ◌+◌, ◌-◌, ◌*◌, ◌/◌, ◌%◌, ◌^◌, ◌<◌, ◌≤◌, ltb, ◌∙◌, lt_of_not-le, arith}
use native.Mathlib.Decide.{dec_le}
use lib.Bits.{bit_xor, xor_add_and}
use Rattle.std.proofs.Math.Nat.{div-eq_of_lt, div-eq_of_lt-le}
use Rattle.std.proofs.lemmas.Nat.{pow_below}
use Rattle.std.proofs.lemmas.Nat.Bits.{and_pow}
use Rattle.lane.proofs.Cases.{if_lt, if_ge}
use Rattle.lane.specs.Words.{pick}
use Rattle.lane.proofs.words.extended.Goals as goal

-- where the bit is clear it is set, and then subtracted; where it is set it is cleared, and then subtracted
clear : (x s q a : ℕ) → s < 2 ^ 31 → x < s → q + a * 2 ≡ x + s → a ≡ 0 → (q + (2 ^ 32 - s)) % 2 ^ 32 ≡ x
clear x s q a hs hx f g = omega (arith, hs, hx, f, g)

set : (x s q a : ℕ) → s < 2 ^ 31 → s ≤ x → x < 2 * s → q + a * 2 ≡ x + s → a ≡ s → (q + (2 ^ 32 - s)) % 2 ^ 32 ≡ x + (2 ^ 32 - 2 * s)
set x s q a hs lx hx f g = omega (arith, hs, lx, hx, f, g)

extension : (k x : ℕ) → k < 31 → x < 2 * 2 ^ k → (bit_xor x (2 ^ k) + (2 ^ 32 - 2 ^ k)) % 2 ^ 32 ≡ pick (ltb x (2 ^ k)) x (x + (2 ^ 32 - 2 * 2 ^ k))
extension k x hk hx =
    elim (dec_le (2 ^ k) x) [
      | yes l ↦ if_ge _ _ _ _ _ l (set x _ _ _ small l hx (xor_add_and x (2 ^ k)) (and_pow x k ∙ one l))
      | no l ↦ if_lt _ _ _ _ _ (lt_of_not-le l) (clear x _ _ _ small (lt_of_not-le l) (xor_add_and x (2 ^ k)) (and_pow x k ∙ none (lt_of_not-le l)))
    ]
  where
    small : 2 ^ k < 2 ^ 31
    small = pow_below k 31 hk

    one : 2 ^ k ≤ x → x / 2 ^ k % 2 * 2 ^ k ≡ 2 ^ k
    one l = let q : x / 2 ^ k ≡ 1 = div-eq_of_lt-le {k = 1} (2 ^ k) (omega arith) (omega (arith, hx)) in rw q (omega arith)

    none : x < 2 ^ k → x / 2 ^ k % 2 * 2 ^ k ≡ 0
    none l = rw (div-eq_of_lt l) (omega arith)

pub returns : goal.returns
returns c = λ k hk e hx. rw e (extension k _ hk (rw e at hx))

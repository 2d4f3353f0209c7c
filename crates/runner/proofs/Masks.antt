-- Masks: a word of ones or of zeros picks between two words by exclusive or, and tells which it is. Assumes nothing.
use Rattle.std.proofs.Common.{◌≡◌, ℕ, zero, suc, ◌+◌, ◌*◌, ◌/◌, ◌%◌, ◌^◌, ◌<◌, Bool, true, false, eqb, List, get_or, sym, refl, ap, ◌∙◌, pow-suc, arith}
use lib.Bits.{differ, bit_and, bit_xor, xor_step, xor_shr, xor_mod, xor_lt, xor_zero_r, and_mask, and_zero_r}
use Rattle.lane.specs.Words.{pick}
use Rattle.runner.specs.PrivateRows.{full, Masks}

-- ---- exclusive or with the same word twice

no_digit : (a : ℕ) → suc (suc a) < 2 → ⊥
no_digit a p = omega arith

digit : (a b : ℕ) → a < 2 → b < 2 → differ a (bit_xor a b) ≡ b
digit zero zero p q = refl
digit zero (suc zero) p q = refl
digit (suc zero) zero p q = refl
digit (suc zero) (suc zero) p q = refl
digit zero (suc (suc b)) p q = absurd (no_digit b q)
digit (suc zero) (suc (suc b)) p q = absurd (no_digit b q)
digit (suc (suc a)) b p q = absurd (no_digit a p)

pub xor_twice : (k a b : ℕ) → a < 2 ^ k → b < 2 ^ k → bit_xor a (bit_xor a b) ≡ b
xor_twice zero a b p q = rw (zero_of a p, zero_of b q)
  where
    zero_of : (a : ℕ) → a < 1 → a ≡ 0
    zero_of a p = omega arith
xor_twice (suc k) a b p q =
    xor_step a (bit_xor a b)
    ∙ ap (λ (x : ℕ). bit_xor (a / 2) x * 2 + differ (a % 2) (bit_xor a b % 2)) (xor_shr a b 1)
    ∙ ap (λ (x : ℕ). bit_xor (a / 2) (bit_xor (a / 2) (b / 2)) * 2 + differ (a % 2) x) (xor_mod a b 1)
    ∙ ap (λ (x : ℕ). x * 2 + differ (a % 2) (bit_xor (a % 2) (b % 2))) (xor_twice k (a / 2) (b / 2) (half a p) (half b q))
    ∙ ap (λ (x : ℕ). b / 2 * 2 + x) (digit (a % 2) (b % 2) (omega arith) (omega arith))
    ∙ whole b
  where
    half : (a : ℕ) → a < 2 ^ suc k → a / 2 < 2 ^ k
    half a p = let e = pow-suc 2 k in omega arith

    whole : (b : ℕ) → b / 2 * 2 + b % 2 ≡ b
    whole b = omega arith

-- ---- a mask picks

pub masked_is : (mask new old : ℕ) → new < 2 ^ 32 → old < 2 ^ 32 → (t : Bool) → mask ≡ full t → bit_xor old (bit_and (bit_xor old new) mask) ≡ pick t new old
unfolding full pick
masked_is mask new old p q true e =
    ap (λ (x : ℕ). bit_xor old (bit_and (bit_xor old new) x)) e ∙ ap (λ (x : ℕ). bit_xor old x) (and_mask (bit_xor old new) 32)
    ∙ ap (λ (x : ℕ). bit_xor old x) (small (bit_xor old new) (xor_lt 32 old new q p)) ∙ xor_twice 32 old new q p
  where
    small : (x : ℕ) → x < 2 ^ 32 → x % 2 ^ 32 ≡ x
    small x h = omega arith
masked_is mask new old p q false e =
    ap (λ (x : ℕ). bit_xor old (bit_and (bit_xor old new) x)) e ∙ ap (λ (x : ℕ). bit_xor old x) (and_zero_r (bit_xor old new)) ∙ xor_zero_r old

-- ---- a mask tells

pub marks : (t : Bool) → eqb (full t) 0xFFFFFFFF ≡ t
unfolding full pick
marks true = refl
marks false = refl

-- words that are the masks of tests are masks
pub masks_of : (n : ℕ) (t : List ℕ) (f : ℕ → Bool) → ((k : ℕ) → k < n → get_or t k 0 ≡ full (f k)) → Masks n t
unfolding Masks
masks_of n t f h k l = h k l ∙ ap full (sym (ap (λ (x : ℕ). eqb x 0xFFFFFFFF) (h k l) ∙ marks (f k)))

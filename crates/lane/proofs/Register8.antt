-- Document 02, M-100: register 8 holds the single nearest to 0.8373. Over whole numbers: singles are counted in units of the smallest, 2 ^ -149, and
-- 0.8373 is 8373 / 10000. Assumes nothing.
use Rattle.std.proofs.Common.{◌≡◌, ℕ, zero, suc, ◌+◌, ◌-◌, ◌*◌, ◌/◌, ◌%◌, ◌^◌, ◌<◌, ◌≤◌, Bool, true, false, eqb, leb, sym, refl, ap, ◌∙◌, subst, le_trans, le_of_lt, mul-le-mul_right, mul_assoc, lt_of_not-le, sub-add_cancel, arith, pow_mono, pow-add, shl_lt, ne_eqb}
use native.Mathlib.Decide.{dec_le}
use lib.Ieee.{binary32, of_bits, of_fields}
use lib.Ieee.Exact.{HasValue, odd_sign}
use borrow.Author.Tests.{lt-leb}
use Rattle.lane.proofs.Cases.{pick_lt}
use Rattle.lane.specs.Words.{pick, fixed_word}
use Rattle.lane.specs.Compute.{exponent}

-- Of the single with the word w, its sign aside: one unit of its last place, its digits (with a leading 1 unless the exponent's field is 0), its value,
abbrev pub last_place : ℕ → ℕ
last_place w = 2 ^ (exponent w - 1)

abbrev pub significand : ℕ → ℕ
significand w = pick (eqb (exponent w) 0) (w % 2 ^ 23) (2 ^ 23 + w % 2 ^ 23)

abbrev pub value : ℕ → ℕ
value w = significand w * last_place w

-- and how far that is from 0.8373, ten thousandfold. A negative single lies further off than it would without its sign.
abbrev pub apart : ℕ → ℕ → ℕ
apart a b = (a - b) + (b - a)

abbrev pub distance : ℕ → ℕ
distance w = apart (10000 * value w) (8373 * 2 ^ 149)

-- Twice the distance is at most one unit of the last place.
abbrev pub within_half : ℕ → Bool
within_half w = leb (2 * distance w) (10000 * last_place w)

-- Register 8 passes that test, in every lane; the word that document 01 has for it fails.
pub within_half_lem : (L : ℕ) → within_half (fixed_word 8 L) ≡ true
unfolding fixed_word pick
within_half_lem L = refl

pub not_within_half : within_half 0x3F566189 ≡ false
unfolding pick
not_within_half = refl

-- The library has the same value, for every word below infinity's.
of_fields_lem : (x t : ℕ) → x < 255 → HasValue (of_fields binary32 false x t) false (pick (eqb x 0) t (2 ^ 23 + t) * 2 ^ (x - 1)) (2 ^ 149)
unfolding of_fields pick
of_fields_lem zero t h = odd_sign 24 false t 0 149
of_fields_lem (suc x) t h =
    simp (ne_eqb (suc x) 255 (λ e. omega arith), ne_eqb (suc x) 0 (λ e. omega arith), less x) (odd_sign 24 false (2 ^ 23 + t) x 149)
  where
    less : (x : ℕ) → suc x - 1 ≡ x
    less x = omega arith

pub value_is : (w : ℕ) → w < 0x7F800000 → HasValue (of_bits binary32 w) false (value w) (2 ^ 149)
unfolding of_bits
value_is w h = rw (lt-leb (2 ^ 31) w (omega arith)) (rw (field w h) (of_fields_lem (exponent w) (w % 2 ^ 23) (omega arith)))
  where
    field : (w : ℕ) → w < 0x7F800000 → w % 2 ^ 31 / 2 ^ 23 ≡ exponent w
    field w h = omega arith

-- Register 8's digits are 0xD6594B. Than these times p, no multiple of p lies nearer 0.8373 * 2 ^ 24 p, nor does anything up to 2 ^ 23 p.
abbrev least : ℕ
least = apart (10000 * 0xD6594B) (8373 * 2 ^ 24)

of_multiple : (n p : ℕ) → least * p ≤ apart (10000 * (n * p)) (8373 * 2 ^ 24 * p)
of_multiple n p =
    elim (dec_le 0xD6594B n) [
      | yes h ↦ omega (arith, mul-le-mul_right p h)
      | no h ↦ omega (arith, mul-le-mul_right p (lt_of_not-le h))
    ]

of_small : (v p : ℕ) → v ≤ 2 ^ 23 * p → least * p ≤ apart (10000 * v) (8373 * 2 ^ 24 * p)
of_small v p h = omega arith

-- With 2 ^ -24 for p: from 1/2 up a single is a multiple of it, and else below 1/2, which is 2 ^ 23 p.
of_digits : (m k : ℕ) → m < 2 ^ 24 → least * 2 ^ 125 ≤ apart (10000 * (m * 2 ^ k)) (8373 * 2 ^ 149)
of_digits m k h =
    elim (dec_le 125 k) [
      | yes l ↦
          subst (λ (v : ℕ). least * 2 ^ 125 ≤ apart (10000 * v) (8373 * 2 ^ 149))
          (mul_assoc m (2 ^ (k - 125)) (2 ^ 125) ∙ ap (λ (x : ℕ). m * x) (sym (pow-add 2 (k - 125) 125) ∙ ap (λ (x : ℕ). 2 ^ x) (sub-add_cancel l)))
          (of_multiple (m * 2 ^ (k - 125)) (2 ^ 125))
      | no l ↦ of_small (m * 2 ^ k) (2 ^ 125) (le_trans (le_of_lt (shl_lt 24 k h)) (pow_mono {i = 24 + k} {j = 148} (omega (arith, lt_of_not-le l))))
    ]

-- No single lies nearer than register 8.
pub none_nearer : (L w : ℕ) → distance (fixed_word 8 L) ≤ distance w
unfolding fixed_word pick
none_nearer L w =
    of_digits (significand w) (exponent w - 1) (pick_lt (eqb (exponent w) 0) (w % 2 ^ 23) (2 ^ 23 + w % 2 ^ 23) (2 ^ 24) (omega arith) (omega arith))

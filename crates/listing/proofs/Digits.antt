-- Digits, over the base and the width: what is written is read back, and what is read is what was written. Assumes nothing.
use mathlib.Core.Path.{◌≡◌, refl, sym, ap, ◌∙◌, subst}
use Prim.Native.Nat.{ℕ, zero, suc, ◌+◌, ◌-◌, ◌/◌, ◌%◌, ◌^◌, ◌<◌, ◌≤◌}
use native.Mathlib.Nat.{mod-lt, div-add-mod', div-lt_iff_lt-mul, pow-suc, pow-zero, le_of_suc-le-suc, eq-or-lt_of_le, not-suc-le-zero, lt_of_lt_of_le}
use native.Mathlib.Decide.{dec_lt}
use native.Mathlib.Omega.{arith}
use mathlib.Core.Bool.{Bool, true, false, ◌&&◌, and-false}
use mathlib.Core.List.{List, [], ◌∷◌, ◌++◌, append_assoc}
use mathlib.Core.Logic.{◌⊎◌, inl, inr}
use lib.ListN.{length, get_or, take, length-append, get_or-eq_default}
use lib.Seq.{get_or_at, take-suc}
use lib.Arith.{digits_lt, digits_div, digits_mod}
use lib.Dec.{ltb}
use borrow.Author.Tests.{lt-ltb, le-ltb, le-leb, lt-leb, ltb-true}
use Rattle.lane.specs.Words.{pick}
use Rattle.lane.proofs.Cases.{pick_true, pick_false}
use Rattle.listing.specs.Forms.{glyph, digit, digits, numeric, number}

-- ---- one digit

pub digit_glyph : (d : ℕ) → d < 36 → digit (glyph d) ≡ d
unfolding digit glyph
digit_glyph d h = go (dec_lt d 10)
  where
    go : Dec (d < 10) → digit (glyph d) ≡ d
    go (yes l) =
        simp (lt-ltb d 10 l, pick_true true (d + 48) (d + 55) refl)
        (simp (le-ltb (d + 48) 48 (omega arith), le-leb (d + 48) 57 (omega arith), pick_true, pick_false) (omega arith))
    go (no n) =
        simp (le-ltb d 10 (omega arith), pick_false false (d + 48) (d + 55) refl)
        (simp (le-ltb (d + 55) 48 (omega arith), lt-leb (d + 55) 57 (omega arith), le-ltb (d + 55) 65 (omega arith), le-leb (d + 55) 90 (omega arith), pick_true, pick_false) (omega arith))

pub glyph_digit : (c : ℕ) → digit c < 36 → glyph (digit c) ≡ c
unfolding digit glyph
glyph_digit c h = go (dec_lt c 48) (dec_lt c 58) (dec_lt c 65) (dec_lt c 91) h
  where
    go : Dec (c < 48) → Dec (c < 58) → Dec (c < 65) → Dec (c < 91) → digit c < 36 → glyph (digit c) ≡ c
    go (yes l) _ _ _ k = absurd (36-not (simp (lt-ltb c 48 l, pick_true) at k))
      where
        36-not : 36 < 36 → ⊥
        36-not z = omega arith
    go (no l) (yes m) _ _ k =
        simp (le-ltb c 48 (omega arith), le-leb c 57 (omega arith), pick_true, pick_false)
        (simp (lt-ltb (c - 48) 10 (omega arith), pick_true) (omega arith))
    go (no l) (no m) (yes n) _ k =
        absurd (36-not (simp (le-ltb c 48 (omega arith), lt-leb c 57 (omega arith), lt-ltb c 65 n, pick_true, pick_false) at k))
      where
        36-not : 36 < 36 → ⊥
        36-not z = omega arith
    go (no l) (no m) (no n) (yes o) k =
        simp (le-ltb c 48 (omega arith), lt-leb c 57 (omega arith), le-ltb c 65 (omega arith), le-leb c 90 (omega arith), pick_true, pick_false)
        (simp (le-ltb (c - 55) 10 (omega arith), pick_false) (omega arith))
    go (no l) (no m) (no n) (no o) k =
        absurd
        (36-not
        (simp (le-ltb c 48 (omega arith), lt-leb c 57 (omega arith), le-ltb c 65 (omega arith), lt-leb c 90 (omega arith), pick_false) at k))
      where
        36-not : 36 < 36 → ⊥
        36-not z = omega arith

-- both parts of a conjunction
pub both : (a b : Bool) → (a && b) ≡ true → (a ≡ true) × (b ≡ true)
both true b h = (refl, h)
both false b h = absurd (no h)
  where
    no : false ≡ true → ⊥
    no e = let z : ◌≡◌ {A = ℕ} 0 1 = cc in omega arith

pub both_true : (a b : Bool) → a ≡ true → b ≡ true → (a && b) ≡ true
both_true a b h k = cc

-- what stands past a text's end is no digit
pub digit_in : (b : ℕ) (t : List ℕ) (i : ℕ) → b ≤ 36 → digit (get_or t i 0) < b → i < length t
unfolding digit pick
digit_in b t i h k = go (dec_lt i (length t))
  where
    go : Dec (i < length t) → i < length t
    go (yes l) = l
    go (no n) = absurd (past (rw (get_or-eq_default t 0 {n = i} (omega arith)) at k))
      where
        past : 36 < b → ⊥
        past z = omega arith

-- ---- a number of w digits

pub length_digits : (b w n : ℕ) → length (digits b w n) ≡ w
unfolding digits
length_digits b zero n = refl
length_digits b (suc w) n =
    length-append (digits b w (n / b)) (glyph (n % b) ∷ []) ∙ ap (λ (k : ℕ). k + 1) (length_digits b w (n / b)) ∙ omega arith

more_digits : (b w n : ℕ) (r : List ℕ) → digits b (suc w) n ++ r ≡ digits b w (n / b) ++ (glyph (n % b) ∷ r)
unfolding digits
more_digits b w n r = append_assoc (digits b w (n / b)) (glyph (n % b) ∷ []) r

last_digit : (b w n : ℕ) (r : List ℕ) → 0 < b → b ≤ 36 → digit (get_or (digits b w (n / b) ++ (glyph (n % b) ∷ r)) w 0) ≡ n % b
last_digit b w n r h k =
    ap digit (get_or_at (digits b w (n / b)) (glyph (n % b)) r 0 w (length_digits b w (n / b)))
    ∙ digit_glyph (n % b) (lt_of_lt_of_le (mod-lt n h) k)

pub numeric_digits : (b w n : ℕ) (r : List ℕ) → 0 < b → b ≤ 36 → numeric b w (digits b w n ++ r) ≡ true
unfolding numeric
numeric_digits b zero n r h k = refl
numeric_digits b (suc w) n r h k =
    rw (more_digits b w n r)
    (both_true _ _ (numeric_digits b w (n / b) (glyph (n % b) ∷ r) h k)
    (rw (last_digit b w n r h k) (lt-ltb (n % b) b (mod-lt n h))))

pub number_digits : (b w n : ℕ) (r : List ℕ) → 0 < b → b ≤ 36 → n < b ^ w → number b w (digits b w n ++ r) ≡ n
unfolding number
number_digits b zero n r h k l = omega (arith, pow-zero b)
number_digits b (suc w) n r h k l =
    rw (more_digits b w n r)
    (rw (last_digit b w n r h k, number_digits b w (n / b) (glyph (n % b) ∷ r) h k ((div-lt_iff_lt-mul h).1 (rw pow-suc at l)))
    (div-add-mod' n b))

pub number_small : (b w : ℕ) (t : List ℕ) → numeric b w t ≡ true → number b w t < b ^ w
unfolding number numeric
number_small b zero t h = omega (arith, pow-zero b)
number_small b (suc w) t h =
    let p = both (numeric b w t) (ltb (digit (get_or t w 0)) b) h in
    rw pow-suc (digits_lt (number_small b w t p.0) (ltb-true _ _ p.1))

pub numeric_length : (b w : ℕ) (t : List ℕ) → b ≤ 36 → numeric b w t ≡ true → w ≤ length t
unfolding numeric
numeric_length b zero t k h = omega arith
numeric_length b (suc w) t k h =
    digit_in b t w k (ltb-true _ _ (both (numeric b w t) (ltb (digit (get_or t w 0)) b) h).1)

pub digits_number : (b w : ℕ) (t : List ℕ) → b ≤ 36 → numeric b w t ≡ true → digits b w (number b w t) ≡ take w t
unfolding number numeric digits
digits_number b zero t k h = refl
digits_number b (suc w) t k h =
    let p = both (numeric b w t) (ltb (digit (get_or t w 0)) b) h in
    let l = ltb-true (digit (get_or t w 0)) b p.1 in
    rw (digits_div (number b w t) l, digits_mod (number b w t) l)
    (rw (digits_number b w t k p.0, glyph_digit (get_or t w 0) (lt_of_lt_of_le l k))
    (sym (take-suc t w 0 (digit_in b t w k l))))

-- one byte that is no digit, and the number is none
pub numeric_stops : (b i w : ℕ) (t : List ℕ) → i < w → b ≤ digit (get_or t i 0) → numeric b w t ≡ false
unfolding numeric
numeric_stops b i zero t h k = absurd (not-suc-le-zero h)
numeric_stops b i (suc w) t h k = go (eq-or-lt_of_le (le_of_suc-le-suc h)) (numeric_stops b i w t)
  where
    go : (i ≡ w) ⊎ (i < w) → (i < w → b ≤ digit (get_or t i 0) → numeric b w t ≡ false) → (numeric b w t && ltb (digit (get_or t w 0)) b) ≡ false
    go (inl e) r =
        rw (le-ltb (digit (get_or t w 0)) b (subst (λ (j : ℕ). b ≤ digit (get_or t j 0)) e k)) (and-false (numeric b w t))
    go (inr l) r = rw (r l k)

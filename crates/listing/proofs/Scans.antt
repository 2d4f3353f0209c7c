-- How the code's walk over positions meets the scan of a text. Assumes nothing.
use mathlib.Core.Path.{◌≡◌, refl, sym, ap, ◌∙◌}
use Prim.Native.Nat.{ℕ, suc, ◌+◌, ◌-◌, ◌*◌, ◌^◌, ◌<◌, ◌≤◌}
use native.Mathlib.Nat.{pow-suc, pow-le-pow_right}
use native.Mathlib.Numerals.{add-one}
use native.Mathlib.Decide.{dec_lt}
use native.Mathlib.Omega.{arith}
use mathlib.Core.Bool.{Bool, true, false}
use mathlib.Core.List.{List, [], ◌∷◌}
use lib.ListN.{length, get_or, take, drop, length-append, length-drop, drop_of_length-le}
use lib.Seq.{drop-cons, drop-drop, get_or-drop, take-length}
use lib.Arith.{digits_lt}
use lib.Dec.{eqb}
use borrow.Author.Tests.{eq-eqb, ne_eqb, lt-ltb, eqb-true}
use Rattle.std.specs.Prelude.{nat_eq, Some}
use Rattle.std.specs.Cmp.Lexicographic.{pointwise}
use Rattle.lane.specs.Words.{pick}
use Rattle.lane.proofs.Cases.{pick_true, pick_false}
use Rattle.listing.specs.Forms.{Scan, taken, faulty, digit, numeric, number, name_of, begins, op_of, scan_byte, scan_number, scan_name}
use Rattle.listing.specs.declared.Got.{Got}
use Rattle.listing.specs.PrivatePlaces.{ItemAt, of_item}
use Rattle.listing.proofs.Digits.{both_true, numeric_length, numeric_stops}
use Rattle.listing.proofs.Names.{begins_split, op_of_name, op_of_none}

-- ---- digits

pub value_fits : (b i w n d : ℕ) → n < b ^ i → i < w → d < b → b ^ w ≤ 2 ^ 32 → n * b + d < 2 ^ 32
value_fits b i w n d h l k f =
    let p : n * b + d < b ^ suc i = rw pow-suc (digits_lt h k) in
    let q : b ^ suc i ≤ b ^ w = pow-le-pow_right (omega arith) l in
    omega arith

pub value_fits_times : (b i w n d : ℕ) → n < b ^ i → i < w → d < b → b ^ w ≤ 2 ^ 32 → n * b < 2 ^ 32
value_fits_times b i w n d h l k f = omega (arith, value_fits b i w n d h l k f)

pub number_more : (b i : ℕ) (t : List ℕ) (at d : ℕ) → numeric b i (drop at t) ≡ true → d ≡ digit (get_or t (at + i) 0) → d < b
    → (numeric b (i + 1) (drop at t) ≡ true) × (number b i (drop at t) * b + d ≡ number b (i + 1) (drop at t))
unfolding numeric number
number_more b i t at d h e l =
    rw (add-one i)
    (let q : digit (get_or (drop at t) i 0) ≡ d = rw (get_or-drop at t i 0) (sym e) in
    (both_true _ _ h (rw q (lt-ltb d b l)), rw q refl))

-- a byte that is no digit of the base
pub number_stops : (b i w : ℕ) (t : List ℕ) (at : ℕ) → i < w → b ≤ digit (get_or t (at + i) 0) → scan_number b w (drop at t) ≡ faulty 0
unfolding scan_number
number_stops b i w t at l h = pick_false _ _ _ (numeric_stops b i w (drop at t) l (rw (get_or-drop at t i 0) h))

-- fewer bytes than digits
pub number_short : (b w : ℕ) (t : List ℕ) (at : ℕ) → b ≤ 36 → at ≤ length t → length t < at + w → scan_number b w (drop at t) ≡ faulty 0
unfolding scan_number pick
number_short b w t at f l h = go (numeric b w (drop at t)) refl
  where
    go : (x : Bool) → numeric b w (drop at t) ≡ x → pick x (taken (number b w (drop at t) ∷ []) (drop w (drop at t))) (faulty 0) ≡ faulty 0
    go true e = absurd (omega (arith, numeric_length b w (drop at t) f e, length-drop at t))
    go false e = refl

pub number_ends : (b w : ℕ) (t : List ℕ) (at v : ℕ) → numeric b w (drop at t) ≡ true → v ≡ number b w (drop at t)
    → scan_number b w (drop at t) ≡ taken (v ∷ []) (drop (at + w) t)
unfolding scan_number
number_ends b w t at v g e = pick_true (numeric b w (drop at t)) _ _ g ∙ cc (drop-drop w at t)

-- ---- names

same_test : (a b : ℕ) → eqb a b ≡ eqb b a
same_test a b = go (eqb a b) (eqb b a) refl refl
  where
    go : (x y : Bool) → eqb a b ≡ x → eqb b a ≡ y → x ≡ y
    go true true e f = refl
    go true false e f = sym (eq-eqb b a (sym (eqb-true a b e))) ∙ f
    go false true e f = sym e ∙ eq-eqb a b (sym (eqb-true b a f))
    go false false e f = refl

-- a text begins with p as the library says it
pub begins_is : (p t : List ℕ) → pointwise nat_eq p (take (length p) t) ≡ begins p t
unfolding begins
begins_is [] t = refl
begins_is (a ∷ p) [] = refl
begins_is (a ∷ p) (b ∷ t) = rw (same_test a b, begins_is p t) refl

-- and from a position on
pub begins_at : (p t : List ℕ) (at : ℕ) (r : Bool) → r ≡ pointwise nat_eq p (take (length p) (take (length t - at) (drop at t)))
    → r ≡ begins p (drop at t)
begins_at p t at r e =
    let all : take (length t - at) (drop at t) ≡ drop at t = rw (← length-drop at t) (take-length (drop at t)) in
    e ∙ rw all (begins_is p (drop at t))

-- the op whose name stands at a position, none of those before it standing there
pub name_found : (t : List ℕ) (at op : ℕ) → at ≤ length t → 0 < op → op ≤ 16 → begins (name_of op) (drop at t) ≡ true
    → ItemAt (scan_name (drop at t)) t (record { at = at + length (name_of op); number = Some op })
unfolding scan_name
name_found t at op a z l h =
    let p = begins_split (name_of op) (drop at t) h in
    let s : op_of 16 (drop at t) ≡ op = rw p (op_of_name 16 op _ z l (omega arith)) in
    record {
      scanned = rw s (pick_false _ _ _ (ne_eqb op 0 (λ e. omega arith)) ∙ cc (drop-drop (length (name_of op)) at t));
      within = omega (arith, length-drop at t, simp length-append at (ap length p));
    }

-- no name stands there
pub name_missing : (t : List ℕ) (at : ℕ) → ((op : ℕ) → op < 17 → 0 < op → begins (name_of op) (drop at t) ≡ false) → scan_name (drop at t) ≡ faulty 0
unfolding scan_name
name_missing t at h = rw (op_of_none 16 (drop at t) (λ op z l. h op (omega arith) z)) (pick_true _ _ _ refl)

-- ---- a byte

pub byte_missing : (t : List ℕ) (at x : ℕ) → (at < length t → get_or t at 0 ≡ x → ⊥) → scan_byte x (drop at t) ≡ faulty 0
unfolding scan_byte
byte_missing t at x e = go (dec_lt at (length t))
  where
    go : Dec (at < length t) → scan_byte x (drop at t) ≡ faulty 0
    go (yes h) = rw (drop-cons t at 0 h) (pick_false _ _ _ (ne_eqb (get_or t at 0) x (e h)))
    go (no h) = rw (drop_of_length-le t {i = at} (omega arith))

pub byte_found : (t : List ℕ) (at x : ℕ) → at < length t → get_or t at 0 ≡ x → scan_byte x (drop at t) ≡ taken [] (drop (at + 1) t)
unfolding scan_byte
byte_found t at x h e = rw (drop-cons t at 0 h) (pick_true _ _ _ (eq-eqb (get_or t at 0) x e) ∙ cc (add-one at))

-- ---- past a position

-- the rest of a text from a position on, as a part
pub rest_is : (t : List ℕ) (at : ℕ) → take (length t - at) (drop at t) ≡ drop at t
rest_is t at = rw (← length-drop at t) (take-length (drop at t))

-- what is found at the front of the rest is found there in the text
pub ahead : (s : Scan) (t r : List ℕ) (at : ℕ) (g : Got) → at ≤ length t → r ≡ drop at t → ItemAt s r g → ItemAt s t (record { at = at + g.at; number = g.number })
ahead s t r at g h q e =
    record {
      scanned = e.scanned ∙ rw q (ap (λ (z : List ℕ). taken (of_item g.number) z) (drop-drop g.at at t));
      within = omega (arith, ap length q, length-drop at t, e.within);
    }

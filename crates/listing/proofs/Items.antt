-- A form's byte string and its items, one by one. Assumes nothing.
use mathlib.Core.Path.{◌≡◌, refl, ◌∙◌}
use Prim.Native.Nat.{ℕ, ◌+◌, ◌-◌, ◌^◌, ◌<◌, ◌≤◌}
use native.Mathlib.Nat.{pow-le-pow_right}
use native.Mathlib.Numerals.{add-one}
use native.Mathlib.Decide.{dec_lt, ℕ_discrete}
use native.Mathlib.Omega.{arith}
use mathlib.Core.Bool.{Bool, true, false}
use mathlib.Core.List.{List, ◌∷◌}
use lib.ListN.{length, get_or, drop}
use lib.Seq.{drop-cons}
use lib.Dec.{eqb, ltb, leb}
use borrow.Author.Tests.{lt-ltb, le-ltb, le-leb, lt-leb, eq-eqb, ne_eqb}
use mir.Val.{bool_byte}
use Rattle.lane.specs.Words.{pick}
use Rattle.lane.proofs.Cases.{pick_true, pick_false}
use Rattle.listing.specs.Forms.{Item, lit, dec, hex, name, ends}
use Rattle.listing.specs.PrivatePlaces.{item_of, form_of}

module _ (x : ℕ) where
  pub item_dec : x < 10 → item_of x ≡ dec x
  unfolding item_of
  item_dec h = pick_true _ _ _ (lt-ltb x 10 h)

  pub item_name : x ≡ 14 → item_of x ≡ name
  unfolding item_of
  item_name h = pick_false _ _ _ (le-ltb x 10 (omega arith)) ∙ pick_true _ _ _ (eq-eqb x 14 h)

  pub item_hex : 16 ≤ x → x ≤ 24 → item_of x ≡ hex (x - 16)
  unfolding item_of
  item_hex h l =
      pick_false _ _ _ (le-ltb x 10 (omega arith)) ∙ pick_false _ _ _ (ne_eqb x 14 (λ e. omega arith))
      ∙ pick_false _ _ _ (le-ltb x 16 h)
      ∙ pick_true _ _ _ (le-leb x 24 l)

  pub item_lit : 10 ≤ x → (x ≡ 14 → ⊥) → (16 ≤ x → 24 < x) → item_of x ≡ lit x
  unfolding item_of
  item_lit h n k = pick_false _ _ _ (le-ltb x 10 h) ∙ pick_false _ _ _ (ne_eqb x 14 n) ∙ go (dec_lt x 16)
    where
      go : Dec (x < 16) → pick (ltb x 16) (lit x) (pick (leb x 24) (hex (x - 16)) (lit x)) ≡ lit x
      go (yes l) = pick_true _ _ _ (lt-ltb x 16 l)
      go (no l) = pick_false _ _ _ (le-ltb x 16 (omega arith)) ∙ pick_false _ _ _ (lt-leb x 24 (k (omega arith)))

  pub hex_fits : x ≤ 24 → 16 ^ (x - 16) ≤ 2 ^ 32
  hex_fits h = let p : 16 ^ (x - 16) ≤ 16 ^ 8 = pow-le-pow_right (omega arith) {i = x - 16} {j = 8} (omega arith) in omega arith

-- which item ends a line
pub ends_byte : (x : ℕ) → ends (item_of x) ≡ bool_byte (eqb x 10)
unfolding ends
ends_byte x = go (dec_lt x 10) (ℕ_discrete x 14) (dec_lt x 16) (dec_lt 24 x)
  where
    at : item_of x ≡ lit x → ends (item_of x) ≡ bool_byte (eqb x 10)
    at e = rw e (flag (eqb x 10))
      where
        flag : (t : Bool) → pick t 1 0 ≡ bool_byte t
        flag true = pick_true _ _ _ refl
        flag false = pick_false _ _ _ refl

    not_ten : (i : Item) → item_of x ≡ i → ends i ≡ 0 → (x ≡ 10 → ⊥) → ends (item_of x) ≡ bool_byte (eqb x 10)
    not_ten i e z n = rw (e, ne_eqb x 10 n) z

    go : Dec (x < 10) → Dec (x ≡ 14) → Dec (x < 16) → Dec (24 < x) → ends (item_of x) ≡ bool_byte (eqb x 10)
    go (yes h) _ _ _ = not_ten (dec x) (item_dec x h) refl (λ e. omega arith)
    go (no h) (yes n) _ _ = not_ten name (item_name x n) refl (λ e. omega arith)
    go (no h) (no n) (yes l) _ = at (item_lit x (omega arith) n (λ k. omega arith))
    go (no h) (no n) (no l) (yes k) = at (item_lit x (omega arith) n (λ _. k))
    go (no h) (no n) (no l) (no k) = not_ten (hex (x - 16)) (item_hex x (omega arith) (omega arith)) refl (λ e. omega arith)

-- the item at a form's position
pub form_cons : (form : List ℕ) (f : ℕ) → f < length form → form_of (drop f form) ≡ item_of (get_or form f 0) ∷ form_of (drop (f + 1) form)
unfolding form_of
form_cons form f h = rw (add-one, drop-cons form f 0)

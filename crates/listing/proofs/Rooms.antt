-- Lists that grow in lent room. Assumes nothing.
use mathlib.Core.Path.{◌≡◌, refl, sym, ap, ◌∙◌}
use Prim.Native.Nat.{ℕ, zero, suc, ◌+◌, ◌-◌, ◌/◌, ◌%◌, ◌<◌, ◌≤◌}
use native.Mathlib.Numerals.{add-one}
use native.Mathlib.Nat.{add-zero}
use native.Mathlib.Omega.{arith}
use mathlib.Core.List.{List, [], ◌∷◌, ◌++◌, append-nil, append_assoc}
use lib.ListN.{length, get_or, take, drop, set, length-append, take-append-drop}
use lib.Seq.{take-suc, take-suc-set, drop-drop, drop-set-lt}
use Rattle.std.proofs.lemmas.Slice.{take-put_mid, drop-put_mid}
use borrow.Rule.Slice.PartMut.{put_mid}
use Rattle.listing.specs.Forms.{glyph, digits}
use Rattle.listing.specs.PrivatePlaces.{Grown}
use Rattle.listing.specs.Listing.{in_front}

pub grown_none : {A : Type 0} (p : ℕ) (before : List A) → Grown p p before before []
grown_none p before = record { front = sym (append-nil (take p before)); back = refl; up_to = sym (add-zero p) }

module _ (p n : ℕ) (before after xs : List ℕ) (g : Grown p n before after xs) where
  -- what is past a longer front is as before too
  past : (k : ℕ) → drop (n + k) after ≡ drop (n + k) before
  past k = sym (drop-drop k n after) ∙ ap (drop k) g.back ∙ drop-drop k n before

  pub grown_store : (v : ℕ) → n < length after → Grown p (n + 1) before (set after n v) (xs ++ (v ∷ []))
  grown_store v h =
      record {
        back = drop-set-lt (n + 1) after n v (omega arith) ∙ past 1;
        front = rw (add-one n) (take-suc-set after n v h ∙ ap (λ (l : List ℕ). l ++ (v ∷ [])) g.front ∙ append_assoc (take p before) xs (v ∷ []));
        up_to = omega (arith, g.up_to, length-append xs (v ∷ []));
      }

  pub grown_more : (m : ℕ) (last ys : List ℕ) → Grown n m after last ys → Grown p m before last (xs ++ ys)
  grown_more m last ys k =
      record {
        front = k.front ∙ ap (λ (l : List ℕ). l ++ ys) g.front ∙ append_assoc (take p before) xs ys;
        back = k.back ∙ rw k.up_to (past (length ys));
        up_to = omega (arith, g.up_to, k.up_to, length-append xs ys);
      }

-- what a copy of a slice writes
pub grown_put : {A : Type 0} (at e : ℕ) (before xs ys : List A) → ys ≡ xs → e ≡ at + length xs → e ≤ length before
    → Grown at e before (put_mid at (e - at) before ys) xs
grown_put at e before xs ys q z h =
    rw q
    (record {
      front = take-put_mid at (e - at) before xs e z (omega arith);
      back = drop-put_mid at (e - at) before xs e (omega arith) (omega arith) (omega arith);
      up_to = z;
    })

-- ---- what a turn of the code adds

pub number_grows : (b w n at last : ℕ) (before after : List ℕ) (v : ℕ) → (w ≡ 0 → ⊥) → last < length after
    → Grown at last before after (digits b (w - 1) (n / b)) → v ≡ glyph (n % b)
    → Grown at (last + 1) before (set after last v) (digits b w n)
unfolding digits
number_grows b zero n at last before after v z h g e = absurd (z refl)
number_grows b (suc w) n at last before after v z h g e =
    let q : suc w - 1 ≡ w = omega arith in
    rw (← e) (grown_store at last before after _ (rw q at g) v h)

pub no_digits : (b w n at : ℕ) (before : List ℕ) → w ≡ 0 → Grown at at before before (digits b w n)
unfolding digits
no_digits b w n at before h = rw h (grown_none at before)

pub list_grows : (xs : List ℕ) (at i : ℕ) (before after : List ℕ) → i < length xs → at + i < length after
    → Grown at (at + i) before after (take i xs) → Grown at (at + (i + 1)) before (set after (at + i) (get_or xs i 0)) (take (i + 1) xs)
list_grows xs at i before after l h g =
    let k : at + i + 1 ≡ at + (i + 1) = omega arith in
    rw (← k, add-one i, take-suc xs i 0 l) (grown_store at (at + i) before after _ g (get_or xs i 0) h)

-- what has grown from the front is in front
pub grown_whole : (n : ℕ) (before after xs : List ℕ) → Grown 0 n before after xs → after ≡ in_front xs before
grown_whole n before after xs g =
    let e : n ≡ length xs = omega (arith, g.up_to) in
    sym (take-append-drop n after) ∙ ap (λ (l : List ℕ). l ++ drop n after) g.front
    ∙ ap (λ (l : List ℕ). xs ++ l) (g.back ∙ ap (λ (k : ℕ). drop k before) e)

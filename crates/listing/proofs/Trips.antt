-- The round trip, over all forms: what is rendered is scanned back, and whatever is scanned is the render of what was scanned. Assumes nothing.
use mathlib.Core.Path.{◌≡◌, refl, sym, ap, ◌∙◌}
use Prim.Native.Nat.{ℕ, suc, ◌+◌, ◌^◌, ◌<◌, ◌≤◌}
use native.Mathlib.Omega.{arith}
use native.Mathlib.Nat.{not-suc-le-zero}
use mathlib.Core.Bool.{Bool, true, false}
use mathlib.Core.List.{List, [], ◌∷◌, ◌++◌, append_assoc}
use lib.ListN.{length, get_or, take, drop, length-append, take-append-drop}
use lib.Seq.{drop_at, drop-append_seam, drop-drop}
use lib.Dec.{eqb}
use borrow.Author.Tests.{eq-eqb, ne_eqb, eqb-true, eqb-false}
use Rattle.lane.specs.Words.{pick}
use Rattle.lane.proofs.Cases.{pick_true, pick_false}
use Rattle.listing.specs.Forms.{Item, lit, dec, hex, name, Form, Scan, taken, faulty, joined, follow, ends, scan, scan_item, scan_byte, scan_number, scan_name, takes, render, render_item, number, numeric, digits, op_of, name_of}
use Rattle.listing.specs.PrivatePlaces.{numbers, widest}
use Rattle.listing.proofs.Digits.{numeric_digits, number_digits, number_small, digits_number, length_digits}
use Rattle.listing.proofs.Joins.{joined_taken, joined_whole, scan_item_lem}
use Rattle.listing.proofs.Names.{begins_split, op_of_name, op_of_begins}

-- two answers that cannot be one
pub apart : (ns t : List ℕ) (k : ℕ) → faulty k ≡ taken ns t → ⊥
apart ns t k e = let z : ◌≡◌ {A = ℕ} 0 1 = cc in omega arith

pub taken_if : (b : Bool) (ms t ns rest : List ℕ) → pick b (taken ms t) (faulty 0) ≡ taken ns rest
    → (b ≡ true) × (ms ≡ ns) × (t ≡ rest)
unfolding pick
taken_if true ms t ns rest e = (refl, cc, cc)
taken_if false ms t ns rest e = absurd (apart ns rest 0 e)

pub taken_else : (b : Bool) (ms t ns rest : List ℕ) → pick b (faulty 0) (taken ms t) ≡ taken ns rest
    → (b ≡ false) × (ms ≡ ns) × (t ≡ rest)
unfolding pick
taken_else true ms t ns rest e = absurd (apart ns rest 0 e)
taken_else false ms t ns rest e = (refl, cc, cc)

-- the numbers that an item can stand for
unfoldable pub Fit : Item → ℕ → Type 0
Fit (lit c) n = Unit
Fit (dec w) n = n < 10 ^ w
Fit (hex w) n = n < 16 ^ w
Fit name n = (0 < n) × (n ≤ 16)

-- what is known of the item that was taken from a text
pub record Taken (i : Item) (t ns rest : List ℕ) : Type 0 where
  pub count : length ns ≡ takes i
  pub spelt : t ≡ render_item i (get_or ns 0 0) ++ rest
  pub fit : Fit i (get_or ns 0 0)

number_taken : (b w : ℕ) (t ns rest : List ℕ) → b ≤ 36 → scan_number b w t ≡ taken ns rest
    → (length ns ≡ 1) × (t ≡ digits b w (get_or ns 0 0) ++ rest) × (get_or ns 0 0 < b ^ w)
unfolding scan_number
number_taken b w t ns rest k e =
    let q = taken_if (numeric b w t) _ _ _ _ e in
    let s : t ≡ digits b w (number b w t) ++ drop w t = rw (digits_number b w t k q.0) (sym (take-append-drop w t)) in
    (rw (← q.1) refl, rw (← q.1, ← q.2) s, rw (← q.1) (number_small b w t q.0))

byte_taken : (c : ℕ) (t ns rest : List ℕ) → scan_byte c t ≡ taken ns rest → (length ns ≡ 0) × (t ≡ c ∷ rest)
unfolding scan_byte
byte_taken c [] ns rest e = absurd (apart ns rest 0 e)
byte_taken c (b ∷ t) ns rest e =
    let q = taken_if (eqb b c) _ _ _ _ e in
    (rw (← q.1) refl, cc (eqb-true b c q.0))

name_taken : (t ns rest : List ℕ) → scan_name t ≡ taken ns rest
    → (length ns ≡ 1) × (t ≡ name_of (get_or ns 0 0) ++ rest) × ((0 < get_or ns 0 0) × (get_or ns 0 0 ≤ 16))
unfolding scan_name
name_taken t ns rest e =
    let q = taken_else (eqb (op_of 16 t) 0) _ _ _ _ e in
    let z = eqb-false (op_of 16 t) 0 q.0 in
    let p : 0 < op_of 16 t = positive (op_of 16 t) z in
    let o = op_of_begins 16 t p in
    (rw (← q.1) refl, rw (← q.1, ← q.2) (begins_split (name_of (op_of 16 t)) t o.0), rw (← q.1) (p, o.1))
  where
    positive : (n : ℕ) → (n ≡ 0 → ⊥) → 0 < n
    positive n z = omega arith

pub item_taken : (i : Item) (t ns rest : List ℕ) → scan_item i t ≡ taken ns rest → Taken i t ns rest
unfolding scan_item render_item takes Fit
item_taken (lit c) t ns rest e = let q = byte_taken c t ns rest e in record { count = q.0; spelt = q.1; fit = tt }
item_taken (dec w) t ns rest e =
    let q = number_taken 10 w t ns rest (omega arith) e in record { count = q.0; spelt = q.1; fit = q.2 }
item_taken (hex w) t ns rest e =
    let q = number_taken 16 w t ns rest (omega arith) e in record { count = q.0; spelt = q.1; fit = q.2 }
item_taken name t ns rest e = let q = name_taken t ns rest e in record { count = q.0; spelt = q.1; fit = q.2 }

-- ---- whole forms

-- the numbers that a form can stand for
unfoldable pub Fits : Form → List ℕ → Type 0
Fits [] ns = length ns ≡ 0
Fits (i ∷ f) ns = (takes i ≤ length ns) × (Fit i (get_or ns 0 0) × Fits f (drop (takes i) ns))

-- what is known of the form that was taken from a text
pub record Whole (f : Form) (t ns rest : List ℕ) : Type 0 where
  pub spelt : t ≡ render f ns ++ rest
  pub fits : Fits f ns
  pub count : length ns ≡ numbers f

zero_one : ◌≡◌ {A = ℕ} 0 1 → ⊥
zero_one e = omega arith

-- an item looks at the first of its own numbers only
pub item_own : (i : Item) (ms ls : List ℕ) → length ms ≡ takes i → render_item i (get_or (ms ++ ls) 0 0) ≡ render_item i (get_or ms 0 0)
unfolding takes render_item
item_own (lit c) ms ls e = refl
item_own (dec w) [] ls e = absurd (zero_one e)
item_own (dec w) (m ∷ ms) ls e = refl
item_own (hex w) [] ls e = absurd (zero_one e)
item_own (hex w) (m ∷ ms) ls e = refl
item_own name [] ls e = absurd (zero_one e)
item_own name (m ∷ ms) ls e = refl

pub fit_own : (i : Item) (ms ls : List ℕ) → length ms ≡ takes i → Fit i (get_or ms 0 0) → Fit i (get_or (ms ++ ls) 0 0)
unfolding takes Fit
fit_own (lit c) ms ls e h = tt
fit_own (dec w) [] ls e h = absurd (zero_one e)
fit_own (dec w) (m ∷ ms) ls e h = h
fit_own (hex w) [] ls e h = absurd (zero_one e)
fit_own (hex w) (m ∷ ms) ls e h = h
fit_own name [] ls e h = absurd (zero_one e)
fit_own name (m ∷ ms) ls e h = h

-- whatever is scanned is the render of what was scanned
pub scan_whole : (f : Form) (t ns rest : List ℕ) → scan f t ≡ taken ns rest → Whole f t ns rest
unfolding scan render Fits numbers follow
scan_whole [] t ns rest e =
    let n : [] ≡ ns = cc in
    record { spelt = cc; fits = rw (← n) refl; count = rw (← n) refl }
scan_whole (i ∷ f) t ns rest e = go (scan_item i t) refl e (λ u ls. scan_whole f u ls rest)
  where
    go : (s : Scan) → scan_item i t ≡ s → follow (ends i) s (scan f) ≡ taken ns rest
        → ((u ls : List ℕ) → scan f u ≡ taken ls rest → Whole f u ls rest) → Whole (i ∷ f) t ns rest
    go (faulty k) q w r = absurd (apart ns rest k w)
    go (taken ms u) q w r =
        let j = joined_taken ms (ends i) (scan f u) ns rest w in
        let a = item_taken i t ms u q in
        let b = r u j.0 j.1.0 in
        let d : drop (takes i) (ms ++ j.0) ≡ j.0 = drop_at ms j.0 (takes i) a.count in
        rw j.1.1
        (record {
          spelt =
              rw (item_own i ms j.0 a.count, d)
              (a.spelt ∙ ap (λ (l : List ℕ). render_item i (get_or ms 0 0) ++ l) b.spelt
              ∙ sym (append_assoc (render_item i (get_or ms 0 0)) (render f j.0) rest));
          fits = (
            omega (arith, a.count, length-append ms j.0),
            (fit_own i ms j.0 a.count a.fit, rw d b.fits),
          );
          count = omega (arith, length-append ms j.0, a.count, b.count);
        })

-- one number, where one is taken
first_of : (ns : List ℕ) → 1 ≤ length ns → get_or ns 0 0 ∷ [] ≡ take 1 ns
first_of [] h = absurd (not-suc-le-zero h)
first_of (n ∷ ns) h = refl

number_back : (b w n : ℕ) (u : List ℕ) → 0 < b → b ≤ 36 → n < b ^ w → scan_number b w (digits b w n ++ u) ≡ taken (n ∷ []) u
unfolding scan_number
number_back b w n u z k h =
    pick_true _ _ _ (numeric_digits b w n u z k)
    ∙ cc (number_digits b w n u z k h, drop_at (digits b w n) u w (length_digits b w n))

name_back : (n : ℕ) (u : List ℕ) → 0 < n → n ≤ 16 → scan_name (name_of n ++ u) ≡ taken (n ∷ []) u
unfolding scan_name
name_back n u z h =
    let o : op_of 16 (name_of n ++ u) ≡ n = op_of_name 16 n u z h (omega arith) in
    rw o (pick_false _ _ _ (ne_eqb n 0 (λ e. omega arith)) ∙ cc (drop-append_seam (name_of n) u))

pub item_back : (i : Item) (ns u : List ℕ) → takes i ≤ length ns → Fit i (get_or ns 0 0)
    → scan_item i (render_item i (get_or ns 0 0) ++ u) ≡ taken (take (takes i) ns) u
unfolding scan_item render_item takes Fit scan_byte
item_back (lit c) ns u h f = pick_true _ _ _ (eq-eqb c c refl)
item_back (dec w) ns u h f = number_back 10 w (get_or ns 0 0) u (omega arith) (omega arith) f ∙ cc (first_of ns h)
item_back (hex w) ns u h f = number_back 16 w (get_or ns 0 0) u (omega arith) (omega arith) f ∙ cc (first_of ns h)
item_back name ns u h f = name_back (get_or ns 0 0) u f.0 f.1 ∙ cc (first_of ns h)

-- what is rendered is scanned back
pub scan_render : (f : Form) (ns rest : List ℕ) → Fits f ns → scan f (render f ns ++ rest) ≡ taken ns rest
unfolding Fits render scan
scan_render [] [] rest h = refl
scan_render [] (n ∷ ns) rest h = absurd (one_zero (length ns) h)
  where
    one_zero : (k : ℕ) → suc k ≡ 0 → ⊥
    one_zero k e = omega arith
scan_render (i ∷ f) ns rest h =
    let k = drop (takes i) ns in
    ap (scan (i ∷ f)) (append_assoc (render_item i (get_or ns 0 0)) (render f k) rest)
    ∙ scan_item_lem i f _ _ _ (item_back i ns (render f k ++ rest) h.0 h.1.0)
    ∙ ap (joined (take (takes i) ns) (ends i)) (scan_render f k rest h.1.1)
    ∙ joined_whole (take (takes i) ns) (ends i) k rest
    ∙ ap (λ (l : List ℕ). taken l rest) (take-append-drop (takes i) ns)

-- a form, and then another
pub render_append : (f g : Form) (ns : List ℕ) → render (f ++ g) ns ≡ render f ns ++ render g (drop (numbers f) ns)
unfolding render numbers
render_append [] g ns = refl
render_append (i ∷ f) g ns =
    ap (λ (l : List ℕ). render_item i (get_or ns 0 0) ++ l)
    (render_append f g (drop (takes i) ns)
    ∙ ap (λ (l : List ℕ). render f (drop (takes i) ns) ++ render g l) (drop-drop (numbers f) (takes i) ns))
    ∙ sym (append_assoc (render_item i (get_or ns 0 0)) (render f (drop (takes i) ns)) (render g (drop (takes i + numbers f) ns)))

pub numbers_append : (f g : Form) → numbers (f ++ g) ≡ numbers f + numbers g
unfolding numbers
numbers_append [] g = omega arith
numbers_append (i ∷ f) g = omega (arith, numbers_append f g)

pub widest_append : (f g : Form) → widest (f ++ g) ≡ widest f + widest g
unfolding widest
widest_append [] g = omega arith
widest_append (i ∷ f) g = omega (arith, widest_append f g)

pub takes_one : (i : Item) → takes i ≤ 1
unfolding takes
takes_one (lit x) = omega arith
takes_one (dec w) = omega arith
takes_one (hex w) = omega arith
takes_one name = omega arith

-- An instruction line written part by part. Assumes nothing.
use mathlib.Core.Path.{◌≡◌, refl, sym, ap, ◌∙◌}
use Prim.Native.Nat.{ℕ, ◌+◌, ◌-◌, ◌*◌, ◌/◌, ◌%◌, ◌<◌, ◌≤◌}
use native.Mathlib.Nat.{add-zero}
use native.Mathlib.Omega.{arith}
use mathlib.Core.List.{List, [], ◌∷◌, ◌++◌, append_assoc}
use lib.ListN.{length, get_or, take, drop, set, length-set, length-append, length-drop, get_or-append}
use lib.Seq.{get_or-drop, get_or-take, length-take-le, drop-append_seam, ext_get_or}
use borrow.Author.Tests.{lt-ltb}
use borrow.Rule.Slice.PartMut.{mid_of}
use Rattle.lane.proofs.Cases.{pick_true}
use Rattle.listing.specs.Forms.{glyph, digits, name_of, bytes, spell, literal, render, render_item, takes}
use Rattle.listing.specs.Listing.{line}
use Rattle.listing.specs.PrivatePlaces.{Grown}
use Rattle.listing.specs.PrivateLines.{spelled, line_length, RowsOf, fields_of}
use Rattle.listing.proofs.Digits.{length_digits}
use Rattle.listing.proofs.LineRows.{length_line}
use Rattle.listing.proofs.Rooms.{grown_none, grown_store, grown_more}

-- ---- digits

-- the next digit
next_digit : (p n : ℕ) (before after xs : List ℕ) → Grown p n before after xs → (d : ℕ) → d < 10 → n < length after
    → Grown p (n + 1) before (set after n (d + 48)) (xs ++ (glyph d ∷ []))
unfolding glyph
next_digit p n before after xs g d h l =
    rw (pick_true _ (d + 48) (d + 55) (lt-ltb d 10 h)) (grown_store p n before after xs g (d + 48) l)

small : (n : ℕ) → n % 10 < 10
small n = omega arith

pub two_stores : (out : List ℕ) (at n : ℕ) → at + 2 ≤ length out
    → Grown at (at + 2) out (set (set out at (n / 10 % 10 + 48)) (at + 1) (n % 10 + 48)) (digits 10 2 n)
unfolding digits
two_stores out at n l =
    let a = next_digit at at out out [] (grown_none at out) (n / 10 % 10) (small (n / 10)) (omega arith) in
    let b = next_digit at (at + 1) out _ _ a (n % 10) (small n) (rw length-set (omega arith)) in
    let e : at + 1 + 1 ≡ at + 2 = omega arith in
    rw e at b

pub five_stores : (out : List ℕ) (at n : ℕ) → at + 5 ≤ length out
    → Grown at (at + 5) out
    (set
    (set (set (set (set out at (n / 10 / 10 / 10 / 10 % 10 + 48)) (at + 1) (n / 10 / 10 / 10 % 10 + 48)) (at + 2) (n / 10 / 10 % 10 + 48)) (at + 3)
    (n / 10 % 10 + 48))
    (at + 4)
    (n % 10 + 48))
    (digits 10 5 n)
unfolding digits
five_stores out at n l =
    let v = n / 10 / 10 / 10 / 10 in
    let a = next_digit at at out out [] (grown_none at out) (v % 10) (small v) (omega arith) in
    let b = next_digit at (at + 1) out _ _ a (n / 10 / 10 / 10 % 10) (small (n / 10 / 10 / 10)) (rw length-set (omega arith)) in
    let b' = rw (two at) at b in
    let c = next_digit at (at + 2) out _ _ b' (n / 10 / 10 % 10) (small (n / 10 / 10)) (rw (length-set, length-set) (omega arith)) in
    let c' = rw (three at) at c in
    let d = next_digit at (at + 3) out _ _ c' (n / 10 % 10) (small (n / 10)) (rw (length-set, length-set, length-set) (omega arith)) in
    let d' = rw (four at) at d in
    let e = next_digit at (at + 4) out _ _ d' (n % 10) (small n) (rw (length-set, length-set, length-set, length-set) (omega arith)) in
    rw (five at) at e
  where
    two : (at : ℕ) → at + 1 + 1 ≡ at + 2
    two at = omega arith

    three : (at : ℕ) → at + 2 + 1 ≡ at + 3
    three at = omega arith

    four : (at : ℕ) → at + 3 + 1 ≡ at + 4
    four at = omega arith

    five : (at : ℕ) → at + 4 + 1 ≡ at + 5
    five at = omega arith

-- ---- parts

-- what an op's row begins with
abbrev pub opening : ℕ → List ℕ
opening op = bytes "op=" ++ (name_of op ++ bytes "imm=")

opening_length : (op : ℕ) → length (opening op) ≡ line_length op - 31
unfolding bytes spell
opening_length op = omega (arith, length-append (name_of op) (bytes "imm="))

row_opens : (op : ℕ) → spelled 0 op line ≡ opening op ++ drop (length (opening op)) (spelled 0 op line)
unfolding spelled line bytes spell literal
row_opens op = sym (begins_with (name_of op) _)
  where
    begins_with : (x y : List ℕ) → (111 ∷ 112 ∷ 61 ∷ (x ++ (105 ∷ 109 ∷ 109 ∷ 61 ∷ []))) ++ drop (length (111 ∷ 112 ∷ 61 ∷ (x ++ (105 ∷ 109 ∷ 109 ∷ 61 ∷ [])))) (111 ∷ 112 ∷ 61 ∷ (x ++ (105 ∷ 109 ∷ 109 ∷ 61 ∷ y)))
        ≡ 111 ∷ 112 ∷ 61 ∷ (x ++ (105 ∷ 109 ∷ 109 ∷ 61 ∷ y))
    begins_with x y =
        let e : x ++ (105 ∷ 109 ∷ 109 ∷ 61 ∷ y) ≡ (x ++ (105 ∷ 109 ∷ 109 ∷ 61 ∷ [])) ++ y = sym (append_assoc x (105 ∷ 109 ∷ 109 ∷ 61 ∷ []) y) in
        rw (e, drop-append_seam (111 ∷ 112 ∷ 61 ∷ (x ++ (105 ∷ 109 ∷ 109 ∷ 61 ∷ []))) y) refl

row_opening : (lows : List ℕ) (op n : ℕ) → RowsOf 0 lows → length lows ≡ 816 → 0 < op → op ≤ 16 → n ≡ line_length op
    → take (n - 31) (drop (48 * op) lows) ≡ opening op
row_opening lows op n rows long z s e =
    ext_get_or 0 (take (n - 31) (drop (48 * op) lows)) (opening op) same
    (λ j i.
    let k : j < length (opening op) = rw same at i in
    get_or-take (n - 31) (drop (48 * op) lows) j 0 (omega (arith, opening_length op)) ∙ get_or-drop (48 * op) lows j 0
    ∙ rows op j z s (omega (arith, opening_length op))
    ∙ ap (λ (x : List ℕ). get_or x j 0) (row_opens op)
    ∙ get_or-append (opening op) _ 0 j k)
  where
    same : length (take (n - 31) (drop (48 * op) lows)) ≡ length (opening op)
    same =
        length-take-le (n - 31) (drop (48 * op) lows) (omega (arith, length-drop (48 * op) lows, length_line op))
        ∙ omega (arith, opening_length op)

-- ---- a line

pub line_rendered : (ns : List ℕ) → opening (get_or ns 0 0) ++ (digits 10 5 (get_or ns 1 0) ++ fields_of ns) ≡ render line ns
unfolding render render_item takes fields_of line bytes spell literal
line_rendered ns =
    simp get_or-drop
    (ap (λ (x : List ℕ). 111 ∷ 112 ∷ 61 ∷ x) (append_assoc (name_of (get_or ns 0 0)) (105 ∷ 109 ∷ 109 ∷ 61 ∷ []) _))

-- a line takes six numbers
pub line_front : (ns : List ℕ) → render line (take 6 ns) ≡ render line ns
unfolding fields_of
line_front ns =
    sym (line_rendered (take 6 ns))
    ∙ rw (
      get_or-take 6 ns 0 0 (omega arith),
      get_or-take 6 ns 1 0 (omega arith),
      get_or-take 6 ns 2 0 (omega arith),
      get_or-take 6 ns 3 0 (omega arith),
      get_or-take 6 ns 4 0 (omega arith),
      get_or-take 6 ns 5 0 (omega arith),
    )
    (line_rendered ns)

-- ---- where parts end

module _ (p n : ℕ) (before after : List ℕ) where
  pub digits_end : (w v : ℕ) → Grown p n before after (digits 10 w v) → n ≡ p + w
  digits_end w v g = g.up_to ∙ ap (λ (k : ℕ). p + k) (length_digits 10 w v)

  pub field_end : (bs : List ℕ) (m v : ℕ) → length bs ≡ m → Grown p n before after (bs ++ digits 10 2 v) → n ≡ p + m + 2
  field_end bs m v e g = omega (arith, g.up_to, length-append bs (digits 10 2 v), length_digits 10 2 v)

-- ---- a whole line

module _ (lows : List ℕ) (op n : ℕ) (rows : RowsOf 0 lows) (long : length lows ≡ 816) (z : 0 < op) (s : op ≤ 16) (e : n ≡ line_length op) where
  -- what an op's row begins with was copied
  pub opening_put : (at a : ℕ) (before one : List ℕ) → Grown at a before one (mid_of (48 * op) (48 * op + (n - 31) - 48 * op) lows)
      → Grown at a before one (opening op)
  opening_put at a before one g =
      let k : 48 * op + (n - 31) - 48 * op ≡ n - 31 = omega arith in
      rw (k, row_opening lows op n rows long z s e) at g

  pub opening_end : (at a : ℕ) (before one : List ℕ) → Grown at a before one (opening op) → a ≡ at + (n - 31)
  opening_end at a before one g = omega (arith, g.up_to, opening_length op)

pub line_joined : (ns : List ℕ) (at a b r : ℕ) (before one two after : List ℕ) → Grown at a before one (opening (get_or ns 0 0))
    → Grown a b one two (digits 10 5 (get_or ns 1 0)) → Grown b r two after (fields_of ns) → Grown at r before after (render line ns)
line_joined ns at a b r before one two after f g h =
    rw (← (line_rendered ns)) (grown_more at a before one _ f r after _ (grown_more a b one two _ g r after _ h))

-- the same of a list from one of its words on, with the opening out of the table
pub line_put : (lows list : List ℕ) (k n : ℕ) → RowsOf 0 lows → length lows ≡ 816 → 0 < get_or list k 0 → get_or list k 0 ≤ 16 → n ≡ line_length (get_or list k 0)
    → (at a b r : ℕ) (before one two after : List ℕ) → Grown at a before one (take (n - 31) (drop (48 * get_or list k 0) lows))
    → Grown a b one two (digits 10 5 (get_or list (k + 1) 0)) → Grown b r two after (fields_of (drop k list))
    → Grown at r before after (render line (drop k list))
line_put lows list k n rows long z s e at a b r before one two after f g h =
    let first : get_or (drop k list) 0 0 ≡ get_or list k 0 = get_or-drop k list 0 0 ∙ ap (λ (j : ℕ). get_or list j 0) (add-zero k) in
    let o : Grown at a before one (opening (get_or list k 0)) = rw (row_opening lows (get_or list k 0) n rows long z s e) at f in
    line_joined (drop k list) at a b r before one two after (rw first o) (rw (get_or-drop k list 1 0) g) h

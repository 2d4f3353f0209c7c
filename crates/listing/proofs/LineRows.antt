-- A text whose bytes lie between a form's with every digit 0 and with every digit 9 is in that form. Assumes nothing.
use mathlib.Core.Path.{◌≡◌, refl, sym, ap, ◌∙◌}
use Prim.Native.Nat.{ℕ, zero, suc, ◌+◌, ◌-◌, ◌*◌, ◌%◌, ◌<◌, ◌≤◌}
use native.Mathlib.Nat.{not-suc-le-zero, add_assoc, add-zero}
use native.Mathlib.Decide.{dec_lt}
use native.Mathlib.Omega.{arith}
use mathlib.Core.Bool.{Bool, true, ◌&&◌}
use mathlib.Core.List.{List, [], ◌∷◌, ◌++◌}
use lib.ListN.{length, get_or, take, drop, replicate, length-append, length-drop, length-replicate, get_or-replicate, take-append-drop, get_or-append}
use lib.Seq.{get_or-append-add, get_or-drop, get_or-take, length-take-le, drop-drop, ext_get_or}
use lib.Dec.{eqb, ltb, leb}
use borrow.Author.Tests.{lt-ltb, le-ltb, le-leb, leb-true, eqb-true}
use Rattle.lane.specs.declared.Insn.{Insn}
use Rattle.lane.specs.Refusals.{instruction_answer}
use Rattle.lane.proofs.Cases.{pick_true, pick_false}
use Rattle.listing.specs.Forms.{Item, lit, dec, hex, name, Form, digit, numeric, number, name_of, names, bytes, spell, literal, taken, joined, ends, scan, scan_item, scan_number, render_item, takes}
use Rattle.listing.specs.Listing.{line}
use Rattle.listing.specs.PrivateLines.{spelled, words_of, line_length, RowsOf, Rows, Between, two_of, five_of, insn_before, LineAt, PlainAt}
use Rattle.listing.proofs.Digits.{both, both_true}
use Rattle.listing.proofs.Joins.{joined_whole, scan_item_lem}
use Rattle.listing.proofs.Names.{every, every_at, length_names}
use Rattle.listing.proofs.Scans.{number_ends}
use Rattle.listing.proofs.Trips.{Fit, item_back}

-- ---- bytes between two lists

abbrev pub Lies : List ℕ → List ℕ → List ℕ → ℕ → Type 0
Lies a b t k = (j : ℕ) → j < length a → (get_or a j 0 ≤ get_or t (k + j) 0) × (get_or t (k + j) 0 ≤ get_or b j 0)

-- in two parts
module _ (a b c d t : List ℕ) (k : ℕ) (same : length a ≡ length c) (h : Lies (a ++ b) (c ++ d) t k) where
  lies_first : Lies a c t k
  lies_first j l =
      rw (get_or-append a b 0 j l, get_or-append c d 0 j (omega arith)) at (h j (omega (arith, length-append a b)))

  lies_rest : Lies b d t (k + length a)
  lies_rest j l =
      let e : k + (length a + j) ≡ k + length a + j = sym (add_assoc k (length a) j) in
      let q : get_or (c ++ d) (length a + j) 0 ≡ get_or d j 0 = ap (λ (n : ℕ). get_or (c ++ d) (n + j) 0) same ∙ get_or-append-add c d j 0 in
      rw (get_or-append-add a b j 0, q, e) at (h (length a + j) (omega (arith, length-append a b)))

-- between two lists that are one there is that list
lies_same : (a t : List ℕ) (k : ℕ) → k + length a ≤ length t → Lies a a t k → drop k t ≡ a ++ drop (k + length a) t
lies_same a t k l h =
    sym (take-append-drop (length a) (drop k t))
    ∙ ap (λ (x : List ℕ). x ++ drop (length a) (drop k t)) front ∙ ap (λ (x : List ℕ). a ++ x) (drop-drop (length a) k t)
  where
    long : length (take (length a) (drop k t)) ≡ length a
    long = length-take-le (length a) (drop k t) (omega (arith, length-drop k t))

    front : take (length a) (drop k t) ≡ a
    front =
        ext_get_or 0 (take (length a) (drop k t)) a long
        (λ j i.
        get_or-take (length a) (drop k t) j 0 (rw long at i) ∙ get_or-drop k t j 0
        ∙ between (get_or a j 0) (get_or t (k + j) 0) (h j (rw long at i)).0 (h j (rw long at i)).1)
      where
        between : (x y : ℕ) → x ≤ y → y ≤ x → y ≡ x
        between x y p q = omega arith

-- ---- digits

-- w bytes from k on are digits
abbrev pub DigitsFrom : ℕ → ℕ → List ℕ → Type 0
DigitsFrom w k t = (j : ℕ) → j < w → (48 ≤ get_or t (k + j) 0) × (get_or t (k + j) 0 ≤ 57)

lies_digits : (w k : ℕ) (t : List ℕ) → Lies (replicate w (48 + 0)) (replicate w (48 + 9)) t k → DigitsFrom w k t
lies_digits w k t h j l =
    rw (get_or-replicate w j (48 + 0) 0 l, get_or-replicate w j (48 + 9) 0 l) at (h j (rw (length-replicate w (48 + 0)) l))

pub digit_is : (c : ℕ) → 48 ≤ c → c ≤ 57 → digit c ≡ c - 48
unfolding digit
digit_is c h k = pick_false _ _ _ (le-ltb c 48 h) ∙ pick_true _ _ _ (le-leb c 57 k)

digits_numeric : (b w k : ℕ) (t : List ℕ) → 10 ≤ b → DigitsFrom w k t → numeric b w (drop k t) ≡ true
unfolding numeric
digits_numeric b zero k t h d = refl
digits_numeric b (suc w) k t h d =
    both_true _ _ (digits_numeric b w k t h (λ j l. d j (omega arith)))
    (rw (get_or-drop k t w 0) (small (get_or t (k + w) 0) (d w (omega arith)).0 (d w (omega arith)).1))
  where
    small : (c : ℕ) → 48 ≤ c → c ≤ 57 → ltb (digit c) b ≡ true
    small c p q = rw (digit_is c p q) (lt-ltb (c - 48) b (omega arith))

digits_scan : (b w k : ℕ) (t : List ℕ) → 10 ≤ b → DigitsFrom w k t
    → scan_number b w (drop k t) ≡ taken (number b w (drop k t) ∷ []) (drop (k + w) t)
digits_scan b w k t h d =
    number_ends b w t k (number b w (drop k t)) (digits_numeric b w k t h d) refl

-- ---- a form

-- how many bytes it has, where its name is op's
unfoldable pub width : ℕ → Form → ℕ
width op [] = 0
width op (lit c ∷ f) = 1 + width op f
width op (dec w ∷ f) = w + width op f
width op (hex w ∷ f) = w + width op f
width op (name ∷ f) = length (name_of op) + width op f

pub length_spelled : (d op : ℕ) (f : Form) → length (spelled d op f) ≡ width op f
unfolding spelled width
length_spelled d op [] = refl
length_spelled d op (lit c ∷ f) = length-append (c ∷ []) (spelled d op f) ∙ ap (λ (n : ℕ). 1 + n) (length_spelled d op f)
length_spelled d op (dec w ∷ f) =
    length-append (replicate w (48 + d)) (spelled d op f) ∙ omega (arith, length-replicate w (48 + d), length_spelled d op f)
length_spelled d op (hex w ∷ f) =
    length-append (replicate w (48 + d)) (spelled d op f) ∙ omega (arith, length-replicate w (48 + d), length_spelled d op f)
length_spelled d op (name ∷ f) = length-append (name_of op) (spelled d op f) ∙ ap (λ (n : ℕ). length (name_of op) + n) (length_spelled d op f)

-- its numbers, from position k on, and that their bytes are digits
unfoldable pub numbers_from : Form → ℕ → ℕ → List ℕ → List ℕ
numbers_from [] op k t = []
numbers_from (lit c ∷ f) op k t = numbers_from f op (k + 1) t
numbers_from (dec w ∷ f) op k t = number 10 w (drop k t) ∷ numbers_from f op (k + w) t
numbers_from (hex w ∷ f) op k t = number 16 w (drop k t) ∷ numbers_from f op (k + w) t
numbers_from (name ∷ f) op k t = op ∷ numbers_from f op (k + length (name_of op)) t

unfoldable pub DigitsIn : Form → ℕ → ℕ → List ℕ → Type 0
DigitsIn [] op k t = Unit
DigitsIn (lit c ∷ f) op k t = DigitsIn f op (k + 1) t
DigitsIn (dec w ∷ f) op k t = DigitsFrom w k t × DigitsIn f op (k + w) t
DigitsIn (hex w ∷ f) op k t = DigitsFrom w k t × DigitsIn f op (k + w) t
DigitsIn (name ∷ f) op k t = DigitsIn f op (k + length (name_of op)) t

-- what is found of a form
pub record Found (f : Form) (op k : ℕ) (t : List ℕ) : Type 0 where
  pub there : scan f (drop k t) ≡ taken (numbers_from f op k t) (drop (k + width op f) t)
  pub digits : DigitsIn f op k t

-- an item of n bytes that takes the numbers ns, and then the rest
then_rest : (i : Item) (f : Form) (op k n : ℕ) (t ns : List ℕ) → scan_item i (drop k t) ≡ taken ns (drop (k + n) t) → Found f op (k + n) t
    → scan (i ∷ f) (drop k t) ≡ taken (ns ++ numbers_from f op (k + n) t) (drop (k + (n + width op f)) t)
then_rest i f op k n t ns a r =
    scan_item_lem i f (drop k t) ns (drop (k + n) t) a ∙ ap (joined ns (ends i)) r.there
    ∙ joined_whole ns (ends i) (numbers_from f op (k + n) t) (drop (k + n + width op f) t)
    ∙ ap (λ (m : ℕ). taken (ns ++ numbers_from f op (k + n) t) (drop m t)) (add_assoc k n (width op f))

module _ (op : ℕ) (z : 0 < op) (s : op ≤ 16) (t : List ℕ) where
  -- an item whose bytes are settled
  settled : (i : Item) (a ns : List ℕ) (k : ℕ) → k + length a ≤ length t → Lies a a t k → ((u : List ℕ) → scan_item i (a ++ u) ≡ taken ns u)
      → scan_item i (drop k t) ≡ taken ns (drop (k + length a) t)
  settled i a ns k l h back = ap (scan_item i) (lies_same a t k l h) ∙ back (drop (k + length a) t)

  pub between : (f : Form) (k : ℕ) → k + width op f ≤ length t → Lies (spelled 0 op f) (spelled 9 op f) t k → Found f op k t
  unfolding spelled width numbers_from DigitsIn scan scan_item render_item takes Fit
  between [] k l h = record { there = ap (λ (m : ℕ). taken [] (drop m t)) (sym (add-zero k)); digits = tt }
  between (lit c ∷ f) k l h =
      let r = between f (k + 1) (omega arith) (lies_rest (c ∷ []) (spelled 0 op f) (c ∷ []) (spelled 9 op f) t k refl h) in
      let a = settled (lit c) (c ∷ []) [] k (omega arith) (lies_first (c ∷ []) (spelled 0 op f) (c ∷ []) (spelled 9 op f) t k refl h) (λ u. item_back (lit c) [] u (omega arith) tt) in
      record { there = then_rest (lit c) f op k 1 t [] a r; digits = r.digits }
  between (dec w ∷ f) k l h =
      let n = length-replicate w (48 + 0) in
      let e : length (replicate w (48 + 0)) ≡ length (replicate w (48 + 9)) = n ∙ sym (length-replicate w (48 + 9)) in
      let d = lies_digits w k t (lies_first (replicate w (48 + 0)) (spelled 0 op f) (replicate w (48 + 9)) (spelled 9 op f) t k e h) in
      let r = between f (k + w) (omega arith) (rw n at (lies_rest (replicate w (48 + 0)) (spelled 0 op f) (replicate w (48 + 9)) (spelled 9 op f) t k e h)) in
      record { there = then_rest (dec w) f op k w t _ (digits_scan 10 w k t (omega arith) d) r; digits = (d, r.digits) }
  between (hex w ∷ f) k l h =
      let n = length-replicate w (48 + 0) in
      let e : length (replicate w (48 + 0)) ≡ length (replicate w (48 + 9)) = n ∙ sym (length-replicate w (48 + 9)) in
      let d = lies_digits w k t (lies_first (replicate w (48 + 0)) (spelled 0 op f) (replicate w (48 + 9)) (spelled 9 op f) t k e h) in
      let r = between f (k + w) (omega arith) (rw n at (lies_rest (replicate w (48 + 0)) (spelled 0 op f) (replicate w (48 + 9)) (spelled 9 op f) t k e h)) in
      record { there = then_rest (hex w) f op k w t _ (digits_scan 16 w k t (omega arith) d) r; digits = (d, r.digits) }
  between (name ∷ f) k l h =
      let r = between f (k + length (name_of op)) (omega arith) (lies_rest (name_of op) (spelled 0 op f) (name_of op) (spelled 9 op f) t k refl h) in
      let a = settled name (name_of op) (op ∷ []) k (omega arith) (lies_first (name_of op) (spelled 0 op f) (name_of op) (spelled 9 op f) t k refl h) (λ u. item_back name (op ∷ []) u (omega arith) (z, s)) in
      record { there = then_rest name f op k (length (name_of op)) t (op ∷ []) a r; digits = r.digits }

-- ---- an instruction line

pub line_width : (op : ℕ) → width op line ≡ line_length op
unfolding width line bytes spell literal
line_width op = omega arith

two_is : (k : ℕ) (t : List ℕ) → DigitsFrom 2 k t → number 10 2 (drop k t) ≡ two_of t k
unfolding number
two_is k t d =
    let a = d 0 (omega arith) in
    let b = d 1 (omega arith) in
    rw (get_or-drop k t 0 0, get_or-drop k t 1 0, add-zero k)
    (rw (digit_is (get_or t k 0) (rw (add-zero k) at a.0) (rw (add-zero k) at a.1), digit_is (get_or t (k + 1) 0) b.0 b.1)
    (sum (get_or t k 0) (get_or t (k + 1) 0) (rw (add-zero k) at a.0) (rw (add-zero k) at a.1) b.0 b.1))
  where
    sum : (x y : ℕ) → 48 ≤ x → x ≤ 57 → 48 ≤ y → y ≤ 57 → (0 * 10 + (x - 48)) * 10 + (y - 48) ≡ (x * 10 + y + 112) % 128
    sum x y a b c d =
        let e : x * 10 + y + 112 ≡ (0 * 10 + (x - 48)) * 10 + (y - 48) + 640 = omega arith in
        sym (ap (λ (n : ℕ). n % 128) e ∙ small ((0 * 10 + (x - 48)) * 10 + (y - 48)) (omega arith))
      where
        small : (n : ℕ) → n < 128 → (n + 640) % 128 ≡ n
        small n h = omega arith

five_is : (k : ℕ) (t : List ℕ) → DigitsFrom 5 k t → number 10 5 (drop k t) ≡ five_of t k
unfolding number
five_is k t d =
    rw (get_or-drop k t 0 0, get_or-drop k t 1 0, get_or-drop k t 2 0, get_or-drop k t 3 0, get_or-drop k t 4 0, add-zero k)
    (rw (
      digit_is (get_or t k 0) (rw (add-zero k) at (d 0 (omega arith)).0) (rw (add-zero k) at (d 0 (omega arith)).1),
      digit_is (get_or t (k + 1) 0) (d 1 (omega arith)).0 (d 1 (omega arith)).1,
      digit_is (get_or t (k + 2) 0) (d 2 (omega arith)).0 (d 2 (omega arith)).1,
      digit_is (get_or t (k + 3) 0) (d 3 (omega arith)).0 (d 3 (omega arith)).1,
      digit_is (get_or t (k + 4) 0) (d 4 (omega arith)).0 (d 4 (omega arith)).1,
    )
    (sum (get_or t k 0) (get_or t (k + 1) 0) (get_or t (k + 2) 0) (get_or t (k + 3) 0) (get_or t (k + 4) 0)
    (rw (add-zero k) at (d 0 (omega arith))) (d 1 (omega arith)) (d 2 (omega arith)) (d 3 (omega arith)) (d 4 (omega arith))))
  where
    sum : (v w x y z : ℕ) → (48 ≤ v) × (v ≤ 57) → (48 ≤ w) × (w ≤ 57) → (48 ≤ x) × (x ≤ 57) → (48 ≤ y) × (y ≤ 57) → (48 ≤ z) × (z ≤ 57)
        → ((((0 * 10 + (v - 48)) * 10 + (w - 48)) * 10 + (x - 48)) * 10 + (y - 48)) * 10 + (z - 48)
        ≡ ((((v * 10 + w) * 10 + x) * 10 + y) * 10 + z + 122032) % 131072
    sum v w x y z a b c d e =
        let n = ((((0 * 10 + (v - 48)) * 10 + (w - 48)) * 10 + (x - 48)) * 10 + (y - 48)) * 10 + (z - 48) in
        let q : (((v * 10 + w) * 10 + x) * 10 + y) * 10 + z + 122032 ≡ n + 655360 = omega arith in
        sym (ap (λ (m : ℕ). m % 131072) q ∙ small n (omega arith))
      where
        small : (n : ℕ) → n < 131072 → (n + 655360) % 131072 ≡ n
        small n h = omega arith

-- the numbers of a line, where its bytes are digits
line_numbers : (op k : ℕ) (t : List ℕ) → DigitsIn line op k t → numbers_from line op k t ≡ words_of (insn_before t op (k + line_length op))
unfolding DigitsIn numbers_from insn_before line bytes spell literal
line_numbers op k t d =
    let n = length (name_of op) in
    let a : k + 1 + 1 + 1 + n + 1 + 1 + 1 + 1 ≡ k + line_length op - 31 = omega arith in
    let b : k + 1 + 1 + 1 + n + 1 + 1 + 1 + 1 + 5 + 1 + 1 + 1 + 1 ≡ k + line_length op - 22 = omega arith in
    let c : k + 1 + 1 + 1 + n + 1 + 1 + 1 + 1 + 5 + 1 + 1 + 1 + 1 + 2 + 1 + 1 + 1 + 1 ≡ k + line_length op - 16 = omega arith in
    let e : k + 1 + 1 + 1 + n + 1 + 1 + 1 + 1 + 5 + 1 + 1 + 1 + 1 + 2 + 1 + 1 + 1 + 1 + 2 + 1 + 1 + 1 + 1 ≡ k + line_length op - 10 = omega arith in
    let f : k + 1 + 1 + 1 + n + 1 + 1 + 1 + 1 + 5 + 1 + 1 + 1 + 1 + 2 + 1 + 1 + 1 + 1 + 2 + 1 + 1 + 1 + 1 + 2 + 1 + 1 + 1 + 1 + 1 ≡ k + line_length op - 3 = omega arith in
    rw (
      five_is _ t d.0 ∙ ap (five_of t) a,
      two_is _ t d.1.0 ∙ ap (two_of t) b,
      two_is _ t d.1.1.0 ∙ ap (two_of t) c,
      two_is _ t d.1.1.1.0 ∙ ap (two_of t) e,
      two_is _ t d.1.1.1.1.0 ∙ ap (two_of t) f,
    )
    refl

-- so a line that lies between two rows of an op is that op's, with these numbers
pub line_between : (lows highs t : List ℕ) (op at : ℕ) → Rows lows highs → 0 < op → op ≤ 16 → line_length op ≤ 48 → at + 48 ≤ length t
    → Between lows highs t at (48 * op) → LineAt t at (at + line_length op) (insn_before t op (at + line_length op))
line_between lows highs t op at rows z s short l h =
    let w = line_width op in
    let r = between op z s t line at (omega arith) lies in
    record {
      scanned =
          r.there ∙ ap (λ (ns : List ℕ). taken ns (drop (at + width op line) t)) (line_numbers op at t r.digits)
          ∙ ap (λ (n : ℕ). taken (words_of (insn_before t op (at + line_length op))) (drop (at + n) t)) w;
      within = omega arith;
    }
  where
    lies : Lies (spelled 0 op line) (spelled 9 op line) t at
    lies j i =
        let k : j < line_length op = rw (length_spelled 0 op line ∙ line_width op) at i in
        let b = h j (omega arith) in
        (rw (rows.0 op j z s k) at b.0, rw (rows.1 op j z s k) at b.1)

-- ---- the tables

abbrev pub low_bytes : List ℕ
low_bytes =
    bytes
    "\0\0\0\0\0\0\0\0\0\0\0\0\0\0\0\0\0\0\0\0\0\0\0\0\0\0\0\0\0\0\0\0\0\0\0\0\0\0\0\0\0\0\0\0\0\0\0\0op=LOAD imm=00000 vb=00 vc=00 vd=00 mod=00\n\0\0\0\0\0op=LOADI imm=00000 vb=00 vc=00 vd=00 mod=00\n\0\0\0\0op=LUT imm=00000 vb=00 vc=00 vd=00 mod=00\n\0\0\0\0\0\0op=SWAP imm=00000 vb=00 vc=00 vd=00 mod=00\n\0\0\0\0\0op=CONFIG imm=00000 vb=00 vc=00 vd=00 mod=00\n\0\0\0op=IADD imm=00000 vb=00 vc=00 vd=00 mod=00\n\0\0\0\0\0op=ABS imm=00000 vb=00 vc=00 vd=00 mod=00\n\0\0\0\0\0\0op=AND imm=00000 vb=00 vc=00 vd=00 mod=00\n\0\0\0\0\0\0op=OR imm=00000 vb=00 vc=00 vd=00 mod=00\n\0\0\0\0\0\0\0op=XOR imm=00000 vb=00 vc=00 vd=00 mod=00\n\0\0\0\0\0\0op=NOT imm=00000 vb=00 vc=00 vd=00 mod=00\n\0\0\0\0\0\0op=LZ imm=00000 vb=00 vc=00 vd=00 mod=00\n\0\0\0\0\0\0\0op=EXEXP imm=00000 vb=00 vc=00 vd=00 mod=00\n\0\0\0\0op=EXMAN imm=00000 vb=00 vc=00 vd=00 mod=00\n\0\0\0\0op=NOP imm=00000 vb=00 vc=00 vd=00 mod=00\n\0\0\0\0\0\0op=STORE imm=00000 vb=00 vc=00 vd=00 mod=00\n\0\0\0\0"

abbrev pub high_bytes : List ℕ
high_bytes =
    bytes
    "\u{7f}\u{7f}\u{7f}\u{7f}\u{7f}\u{7f}\u{7f}\u{7f}\u{7f}\u{7f}\u{7f}\u{7f}\u{7f}\u{7f}\u{7f}\u{7f}\u{7f}\u{7f}\u{7f}\u{7f}\u{7f}\u{7f}\u{7f}\u{7f}\u{7f}\u{7f}\u{7f}\u{7f}\u{7f}\u{7f}\u{7f}\u{7f}\u{7f}\u{7f}\u{7f}\u{7f}\u{7f}\u{7f}\u{7f}\u{7f}\u{7f}\u{7f}\u{7f}\u{7f}\u{7f}\u{7f}\u{7f}\u{7f}op=LOAD imm=99999 vb=99 vc=99 vd=99 mod=99\n\u{7f}\u{7f}\u{7f}\u{7f}\u{7f}op=LOADI imm=99999 vb=99 vc=99 vd=99 mod=99\n\u{7f}\u{7f}\u{7f}\u{7f}op=LUT imm=99999 vb=99 vc=99 vd=99 mod=99\n\u{7f}\u{7f}\u{7f}\u{7f}\u{7f}\u{7f}op=SWAP imm=99999 vb=99 vc=99 vd=99 mod=99\n\u{7f}\u{7f}\u{7f}\u{7f}\u{7f}op=CONFIG imm=99999 vb=99 vc=99 vd=99 mod=99\n\u{7f}\u{7f}\u{7f}op=IADD imm=99999 vb=99 vc=99 vd=99 mod=99\n\u{7f}\u{7f}\u{7f}\u{7f}\u{7f}op=ABS imm=99999 vb=99 vc=99 vd=99 mod=99\n\u{7f}\u{7f}\u{7f}\u{7f}\u{7f}\u{7f}op=AND imm=99999 vb=99 vc=99 vd=99 mod=99\n\u{7f}\u{7f}\u{7f}\u{7f}\u{7f}\u{7f}op=OR imm=99999 vb=99 vc=99 vd=99 mod=99\n\u{7f}\u{7f}\u{7f}\u{7f}\u{7f}\u{7f}\u{7f}op=XOR imm=99999 vb=99 vc=99 vd=99 mod=99\n\u{7f}\u{7f}\u{7f}\u{7f}\u{7f}\u{7f}op=NOT imm=99999 vb=99 vc=99 vd=99 mod=99\n\u{7f}\u{7f}\u{7f}\u{7f}\u{7f}\u{7f}op=LZ imm=99999 vb=99 vc=99 vd=99 mod=99\n\u{7f}\u{7f}\u{7f}\u{7f}\u{7f}\u{7f}\u{7f}op=EXEXP imm=99999 vb=99 vc=99 vd=99 mod=99\n\u{7f}\u{7f}\u{7f}\u{7f}op=EXMAN imm=99999 vb=99 vc=99 vd=99 mod=99\n\u{7f}\u{7f}\u{7f}\u{7f}op=NOP imm=99999 vb=99 vc=99 vd=99 mod=99\n\u{7f}\u{7f}\u{7f}\u{7f}\u{7f}\u{7f}op=STORE imm=99999 vb=99 vc=99 vd=99 mod=99\n\u{7f}\u{7f}\u{7f}\u{7f}"

-- the line of every op is in its row
abbrev in_row : ℕ → List ℕ → ℕ → Bool
in_row d table op = every (line_length op) (λ j. eqb (get_or table (48 * op + j) 0) (get_or (spelled d op line) j 0))

every_low : every 16 (λ k. in_row 0 low_bytes (k + 1)) ≡ true
unfolding every spelled line names name_of bytes spell literal
every_low = refl

every_high : every 16 (λ k. in_row 9 high_bytes (k + 1)) ≡ true
unfolding every spelled line names name_of bytes spell literal
every_high = refl

rows_of : (d : ℕ) (table : List ℕ) → every 16 (λ k. in_row d table (k + 1)) ≡ true → RowsOf d table
rows_of d table e op j z s l =
    let k : op - 1 + 1 ≡ op = omega arith in
    let r : in_row d table op ≡ true = rw k at (every_at 16 (λ n. in_row d table (n + 1)) (op - 1) (omega arith) e) in
    eqb-true _ _ (every_at (line_length op) (λ i. eqb (get_or table (48 * op + i) 0) (get_or (spelled d op line) i 0)) j l r)

pub line_rows : Rows low_bytes high_bytes
line_rows = (rows_of 0 low_bytes every_low, rows_of 9 high_bytes every_high)

-- no line is longer than a row
pub length_line : (op : ℕ) → line_length op ≤ 45
length_line op = omega (arith, length_names op)

-- ---- the loop that compares

module _ (lows highs t : List ℕ) (at from : ℕ) where
  -- what is known each time its test is reached
  abbrev pub Standing : Bool → ℕ → Type 0
  Standing good j =
      good ≡ true → (i : ℕ) → i < j → (get_or lows (from + i) 0 ≤ get_or t (at + i) 0) × (get_or t (at + i) 0 ≤ get_or highs (from + i) 0)

  pub standing_start : (good : Bool) → Standing good 0
  standing_start good e i l = absurd (not-suc-le-zero l)

  pub standing_more : (good : Bool) (j : ℕ) → Standing good j
      → Standing (good && leb (get_or lows (from + j) 0) (get_or t (at + j) 0) && leb (get_or t (at + j) 0) (get_or highs (from + j) 0)) (j + 1)
  standing_more good j s e i l =
      let p = both (good && leb (get_or lows (from + j) 0) (get_or t (at + j) 0)) (leb (get_or t (at + j) 0) (get_or highs (from + j) 0)) e in
      let q = both good (leb (get_or lows (from + j) 0) (get_or t (at + j) 0)) p.0 in
      elim (dec_lt i j) [
        | yes h ↦ s q.0 i h
        | no h ↦
            let k : j ≡ i = omega arith in
            (leb-true _ _ (rw k at q.1), leb-true _ _ (rw k at p.1))
      ]

  pub standing_end : (good : Bool) (j : ℕ) → 48 ≤ j → Standing good j → good ≡ true → Between lows highs t at from
  standing_end good j h s e i l = s e i (omega arith)

-- ---- what a return says

module _ (lows highs t : List ℕ) (op at n : ℕ) (rows : Rows lows highs) (z : 0 < op) (s : op ≤ 16) (e : n ≡ line_length op) (l : at + 48 ≤ length t) where
  pub line_stands : Between lows highs t at (48 * op) → (i : Insn) → i ≡ insn_before t op (at + n) → LineAt t at (at + n) i
  line_stands h i q =
      rw (q, e) (line_between lows highs t op at rows z s (omega (arith, length_line op)) l h)

  pub line_plain : (good fine : Bool) → (good ≡ true → Between lows highs t at (48 * op)) → (i : Insn) → i ≡ insn_before t op (at + n)
      → fine ≡ eqb (instruction_answer true i) 0 → (good && fine) ≡ true → PlainAt t at (at + n)
  line_plain good fine h i q f b =
      let p = both good fine b in
      record { insn = i; stands = line_stands (h p.0) i q; accepted = eqb-true _ _ (sym f ∙ p.1) }

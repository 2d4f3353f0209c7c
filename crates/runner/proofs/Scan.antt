-- The scan over a list's instructions, turn by turn, and an instruction's six words. Assumes nothing.
use Rattle.std.proofs.Common.{◌≡◌, ℕ, zero, suc, ◌+◌, ◌-◌, ◌*◌, ◌/◌, ◌%◌, ◌<◌, ◌≤◌, Bool, true, false, eqb, List, [], ◌∷◌, ◌++◌, length, get_or, take, drop, sym, refl, ap, ◌∙◌, add-zero, arith, drop-cons, get_or-append-add, eq-eqb, ne_eqb, eqb-true}
use lib.ListN.{get_or-append}
use borrow.Author.Tests.{eqb-false}
use Rattle.lane.specs.Words.{pick}
use Rattle.lane.specs.Refusals.{instruction_answer}
use Rattle.lane.proofs.Cases.{pick_true, pick_false}
use Rattle.std.specs.Simd.{first_chunks}
use native.Mathlib.Nat.{mul-zero, mul-suc, not-suc-le-zero, le_of_suc-le-suc}
use lib.Seq.{drop-drop, get_or-drop, get_or-take}
use Rattle.lane.specs.declared.Insn.{Insn}
use Rattle.runner.specs.Checks.{Found}
use Rattle.runner.specs.Checks.{insn_at, found, scan}

one_less : (n k : ℕ) → k < n → n - k ≡ suc (n - (k + 1))
one_less n k h = omega arith

-- an instruction that is not refused is passed by
pub scan_on : (list : List ℕ) (n k : ℕ) → k < n → instruction_answer true (insn_at list k) ≡ 0 → scan list k (n - k) ≡ scan list (k + 1) (n - (k + 1))
unfolding scan
scan_on list n k h e =
    ap (λ (m : ℕ). scan list k m) (one_less n k h)
    ∙ pick_true (eqb (instruction_answer true (insn_at list k)) 0) (scan list (k + 1) (n - (k + 1)))
    (found (instruction_answer true (insn_at list k)) k)
    (eq-eqb (instruction_answer true (insn_at list k)) 0 e)

-- one that is refused is found
pub scan_stop : (list : List ℕ) (n k : ℕ) → k < n → (instruction_answer true (insn_at list k) ≡ 0 → ⊥)
    → scan list k (n - k) ≡ found (instruction_answer true (insn_at list k)) k
unfolding scan
scan_stop list n k h e =
    ap (λ (m : ℕ). scan list k m) (one_less n k h)
    ∙ pick_false (eqb (instruction_answer true (insn_at list k)) 0) (scan list (k + 1) (n - (k + 1)))
    (found (instruction_answer true (insn_at list k)) k)
    (ne_eqb (instruction_answer true (insn_at list k)) 0 e)

-- past the last there is nothing to find
pub scan_end : (list : List ℕ) (n k : ℕ) → n ≤ k → scan list k (n - k) ≡ found 0 0
unfolding scan
scan_end list n k h = ap (λ (m : ℕ). scan list k m) (none n k h)
  where
    none : (n k : ℕ) → n ≤ k → n - k ≡ 0
    none n k h = omega arith

pub scan_start : (list : List ℕ) (n : ℕ) → scan list 0 n ≡ scan list 0 (n - 0)
scan_start list n = ap (λ (m : ℕ). scan list 0 m) (whole n)
  where
    whole : (n : ℕ) → n ≡ n - 0
    whole n = omega arith

-- the six words of instruction k, and those after it
pub insn_words : (list : List ℕ) (k : ℕ) → 6 * k + 6 ≤ length list
    → drop (6 * k) list
    ≡ ((insn_at list k).op ∷ (insn_at list k).imm ∷ (insn_at list k).vb ∷ (insn_at list k).vc ∷ (insn_at list k).vd ∷ (insn_at list k).md ∷ [])
    ++ drop (6 * (k + 1)) list
unfolding insn_at
insn_words list k h =
    let e0 : suc (6 * k) ≡ 6 * k + 1 = omega arith in
    let e1 : suc (6 * k + 1) ≡ 6 * k + 2 = omega arith in
    let e2 : suc (6 * k + 2) ≡ 6 * k + 3 = omega arith in
    let e3 : suc (6 * k + 3) ≡ 6 * k + 4 = omega arith in
    let e4 : suc (6 * k + 4) ≡ 6 * k + 5 = omega arith in
    let e5 : suc (6 * k + 5) ≡ 6 * (k + 1) = omega arith in
    rw (
      drop-cons list (6 * k) 0 (omega arith),
      e0,
      drop-cons list (6 * k + 1) 0 (omega arith),
      e1,
      drop-cons list (6 * k + 2) 0 (omega arith),
      e2,
      drop-cons list (6 * k + 3) 0 (omega arith),
      e3,
      drop-cons list (6 * k + 4) 0 (omega arith),
      e4,
      drop-cons list (6 * k + 5) 0 (omega arith),
      e5,
    )

-- the instructions of a joined list
pub insn_first : (a b : List ℕ) (k : ℕ) → 6 * k + 5 < length a → insn_at (a ++ b) k ≡ insn_at a k
unfolding insn_at
insn_first a b k h =
    λ i.
    record {
      op = get_or-append a b 0 (6 * k) (omega arith) i;
      imm = get_or-append a b 0 (6 * k + 1) (omega arith) i;
      vb = get_or-append a b 0 (6 * k + 2) (omega arith) i;
      vc = get_or-append a b 0 (6 * k + 3) (omega arith) i;
      vd = get_or-append a b 0 (6 * k + 4) (omega arith) i;
      md = get_or-append a b 0 (6 * k + 5) (omega arith) i;
    }

word_second : (a b : List ℕ) (j k : ℕ) → k ≡ length a + j → get_or (a ++ b) k 0 ≡ get_or b j 0
word_second a b j k e = ap (λ (x : ℕ). get_or (a ++ b) x 0) e ∙ get_or-append-add a b j 0

pub insn_second : (a b : List ℕ) (k : ℕ) → length a % 6 ≡ 0 → insn_at (a ++ b) (length a / 6 + k) ≡ insn_at b k
unfolding insn_at
insn_second a b k h =
    λ i.
    record {
      op = word_second a b (6 * k) (6 * (length a / 6 + k)) (omega arith) i;
      imm = word_second a b (6 * k + 1) (6 * (length a / 6 + k) + 1) (omega arith) i;
      vb = word_second a b (6 * k + 2) (6 * (length a / 6 + k) + 2) (omega arith) i;
      vc = word_second a b (6 * k + 3) (6 * (length a / 6 + k) + 3) (omega arith) i;
      vd = word_second a b (6 * k + 4) (6 * (length a / 6 + k) + 4) (omega arith) i;
      md = word_second a b (6 * k + 5) (6 * (length a / 6 + k) + 5) (omega arith) i;
    }

-- ---- as a list grows

-- where none is refused, nothing is named
scan_none : (list : List ℕ) (k n : ℕ) → (scan list k n).answer ≡ 0 → scan list k n ≡ found 0 0
unfolding scan pick
scan_none list k zero h = refl
scan_none list k (suc n) h = go (eqb (instruction_answer true (insn_at list k)) 0) refl h (scan_none list (k + 1) n)
  where
    go : (t : Bool) → eqb (instruction_answer true (insn_at list k)) 0 ≡ t
        → (pick t (scan list (k + 1) n) (found (instruction_answer true (insn_at list k)) k)).answer ≡ 0
        → ((scan list (k + 1) n).answer ≡ 0 → scan list (k + 1) n ≡ found 0 0)
        → pick t (scan list (k + 1) n) (found (instruction_answer true (insn_at list k)) k) ≡ found 0 0
    go true e q r = r q
    go false e q r = absurd (eqb-false (instruction_answer true (insn_at list k)) 0 e q)

-- the first refused of n instructions, or else the one after them
scan_last : (list : List ℕ) (k n : ℕ) → scan list k (suc n) ≡ pick (eqb (scan list k n).answer 0) (scan list (k + n) 1) (scan list k n)
unfolding scan pick
scan_last list k zero = ap (λ (j : ℕ). scan list j 1) (sym (add-zero k))
scan_last list k (suc n) = go (eqb (instruction_answer true (insn_at list k)) 0) refl (scan_last list (k + 1) n)
  where
    next : k + 1 + n ≡ k + suc n
    next = omega arith

    go : (t : Bool) → eqb (instruction_answer true (insn_at list k)) 0 ≡ t
        → scan list (k + 1) (suc n) ≡ pick (eqb (scan list (k + 1) n).answer 0) (scan list (k + 1 + n) 1) (scan list (k + 1) n)
        → pick t (scan list (k + 1) (suc n)) (found (instruction_answer true (insn_at list k)) k)
        ≡ pick (eqb (pick t (scan list (k + 1) n) (found (instruction_answer true (insn_at list k)) k)).answer 0) (scan list (k + suc n) 1)
        (pick t (scan list (k + 1) n) (found (instruction_answer true (insn_at list k)) k))
    go true e r = r ∙ ap (λ (j : ℕ). pick (eqb (scan list (k + 1) n).answer 0) (scan list j 1) (scan list (k + 1) n)) next
    go false e r = sym (pick_false _ _ _ e)

-- what follows a list has no part in the scan of it
scan_same : (list more : List ℕ) (k n : ℕ) → 6 * (k + n) ≤ length list → scan (list ++ more) k n ≡ scan list k n
unfolding scan
scan_same list more k zero h = refl
scan_same list more k (suc n) h =
    rw (insn_first list more k (omega arith), scan_same list more (k + 1) n (omega arith))

-- so the first refused instruction of a list that grew by one is known from the one before, and from that instruction's own answer
pub scan_grows : (list more : List ℕ) (n : ℕ) (f : Found) → length list ≡ 6 * n → f ≡ scan list 0 n
    → scan (list ++ more) 0 (n + 1)
    ≡ pick (eqb f.answer 0)
    (pick (eqb (instruction_answer true (insn_at more 0)) 0) f (found (instruction_answer true (insn_at more 0)) n)) f
unfolding scan
scan_grows list more n f l e =
    ap (scan (list ++ more) 0) more_one ∙ scan_last (list ++ more) 0 n
    ∙ rw (scan_same list more 0 n (omega arith), ← e) (go (eqb f.answer 0) refl)
  where
    more_one : n + 1 ≡ suc n
    more_one = omega arith

    here : insn_at (list ++ more) (0 + n) ≡ insn_at more 0
    here = ap (insn_at (list ++ more)) {x = 0 + n} {y = length list / 6 + 0} (omega arith) ∙ insn_second list more 0 (omega arith)

    at : 0 + n ≡ n
    at = omega arith

    go : (t : Bool) → eqb f.answer 0 ≡ t
        → pick t (pick (eqb (instruction_answer true (insn_at (list ++ more) (0 + n))) 0) (found 0 0) (found (instruction_answer true (insn_at (list ++ more) (0 + n))) (0 + n))) f
        ≡ pick t (pick (eqb (instruction_answer true (insn_at more 0)) 0) f (found (instruction_answer true (insn_at more 0)) n)) f
    go true q =
        rw (here, at)
        (ap (λ (x : Found). pick true (pick (eqb (instruction_answer true (insn_at more 0)) 0) x (found (instruction_answer true (insn_at more 0)) n)) f)
        (sym (e ∙ scan_none list 0 n (sym (ap (λ (x : Found). x.answer) e) ∙ eqb-true f.answer 0 q))))
    go false q = pick_false false _ _ refl ∙ sym (pick_false false _ _ refl)

-- ---- a list in chunks of six

-- chunk k of a list's m
pub chunk_at : (n m k : ℕ) (xs : List ℕ) → k < m → get_or (first_chunks n m xs) k [] ≡ take n (drop (n * k) xs)
chunk_at n zero k xs h = absurd (not-suc-le-zero h)
chunk_at n (suc m) zero xs h = ap (λ (j : ℕ). take n (drop j xs)) (sym (mul-zero n))
chunk_at n (suc m) (suc k) xs h =
    let e : n + n * k ≡ n * suc k = omega (arith, mul-suc n k) in
    chunk_at n m k (drop n xs) (le_of_suc-le-suc h) ∙ ap (take n) (drop-drop (n * k) n xs ∙ ap (λ (j : ℕ). drop j xs) e)

-- the instruction of six words
abbrev the_insn : List ℕ → Insn
the_insn n = record { op = get_or n 0 0; imm = get_or n 1 0; vb = get_or n 2 0; vc = get_or n 3 0; vd = get_or n 4 0; md = get_or n 5 0 }

-- a word of a chunk, and the instruction that it holds
module _ (chunks : List (List ℕ)) (list : List ℕ) (k : ℕ) (e : chunks ≡ first_chunks 6 (length list / 6) list) (l : k < length list / 6) where
  word_in : (j : ℕ) → j < 6 → get_or (get_or chunks k []) j 0 ≡ get_or list (6 * k + j) 0
  word_in j h =
      ap (λ (x : List (List ℕ)). get_or (get_or x k []) j 0) e ∙ ap (λ (x : List ℕ). get_or x j 0) (chunk_at 6 (length list / 6) k list l)
      ∙ get_or-take 6 (drop (6 * k) list) j 0 h ∙ get_or-drop (6 * k) list j 0

  pub insn_in : the_insn (get_or chunks k []) ≡ insn_at list k
  unfolding insn_at
  insn_in =
      λ i.
      record {
        op = (word_in 0 (omega arith) ∙ ap (λ (x : ℕ). get_or list x 0) (add-zero (6 * k))) i;
        imm = word_in 1 (omega arith) i;
        vb = word_in 2 (omega arith) i;
        vc = word_in 3 (omega arith) i;
        vd = word_in 4 (omega arith) i;
        md = word_in 5 (omega arith) i;
      }

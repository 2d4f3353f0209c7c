-- Eight counters, of ties and of stores: what an instruction adds to them, and what a list adds up to. Assumes nothing.
use Rattle.std.proofs.Common.{◌≡◌, ℕ, zero, suc, ◌+◌, ◌*◌, ◌%◌, ◌^◌, ◌<◌, ◌≤◌, Bool, true, false, not, ◌&&◌, ◌||◌, eqb, ltb, List, [], ◌∷◌, length, get_or, set, sym, refl, ap, ◌∙◌, le_trans, le_of_eq, add-le-add, suc-mul, add-one, arith, length-set, get_or-set_other, get_or-set_same, ext_get_or, eq-eqb, ne_eqb}
use native.Mathlib.Decide.{ℕ_discrete}
use lib.Bits.{bit_and}
use borrow.Author.Tests.{eqb-false}
use Rattle.lane.specs.declared.Settings.{Settings}
use Rattle.lane.specs.declared.Insn.{Insn}
use Rattle.lane.specs.Words.{pick, bit, flag_of, build, reg}
use Rattle.lane.specs.Swap.{compared, is_equal, tied, tied_with}
use Rattle.lane.specs.Rule.{is_tied}
use Rattle.lane.specs.Load.{address}
use Rattle.lane.proofs.Ranks.{tied_words}
use Rattle.lane.proofs.Counted.{flag_small, at_most_four}
use Rattle.lane.proofs.Stores.{length_build, get_d_build, build_same}
use Rattle.runner.specs.Image.{lane_in}
use Rattle.runner.specs.Checks.{insn_at, list_limit}
use Rattle.runner.specs.Run.{Machine, steps, tie_in, ties_by, stores_by, over_column, count_after, no_counts}
use Rattle.runner.specs.PrivateRows.{row, full}
use Rattle.runner.specs.PrivateSwap.{tied_by}
use Rattle.runner.specs.PrivateSteps.{counted, Room}
use Rattle.runner.proofs.Filled.{none_below, operand}

-- ---- one lane

pub flag_le : (r : ℕ) (t : Bool) → r ≡ flag_of t → r ≤ 1
flag_le r t e = omega (arith, flag_small t)

-- a mask and a test, as a number
flag_made : (e f q : Bool) → bit_and (bit_and (full e) (full (f && q))) 1 ≡ flag_of ((f && e) && q)
unfolding full flag_of pick
flag_made true true true = refl
flag_made true true false = refl
flag_made true false q = refl
flag_made false true true = refl
flag_made false true false = refl
flag_made false false q = refl

pub tie_made : (go m config c d : ℕ) (free e : Bool) → c < 2 ^ 32 → d < 2 ^ 32 → m ≡ full ((free || bit config 4) && eqb c d) → go ≡ full e
    → bit_and (bit_and go m) 1 ≡ flag_of (((free || bit config 4) && e) && is_equal (compared c d))
tie_made go m config c d free e fc fd h g =
    ap (λ (x : ℕ). bit_and (bit_and x m) 1) g
    ∙ ap (λ (x : ℕ). bit_and (bit_and (full e) x) 1) (h ∙ ap (λ (t : Bool). full ((free || bit config 4) && t)) (sym (tied_words c d fc fd)))
    ∙ flag_made e (free || bit config 4) (is_equal (compared c d))

-- ---- the eight counters

pub counted_same : (ties : List ℕ) (f g : ℕ → ℕ) → ((L : ℕ) → L < 32 → f L ≡ g L) → counted ties f ≡ counted ties g
unfolding counted
counted_same ties f g h = build_same 8 _ _ (λ c l. cc (h c (omega arith), h (8 + c) (omega arith), h (16 + c) (omega arith), h (24 + c) (omega arith)))

-- the first n columns counted, the others as they were
pub record Counting (more : ℕ → ℕ) (before : List ℕ) (n : ℕ) (ties : List ℕ) : Type 0 where
  pub long : length ties ≡ 8
  pub made : (c : ℕ) → c < n → get_or ties c 0 ≡ get_or before c 0 + over_column more c
  pub kept : (c : ℕ) → n ≤ c → get_or ties c 0 ≡ get_or before c 0

pub counting_start : (more : ℕ → ℕ) (before : List ℕ) → length before ≡ 8 → Counting more before 0 before
counting_start more before e = record { long = e; made = λ c l. absurd (none_below c l); kept = λ c l. refl }

pub counting_more : (more : ℕ → ℕ) (before : List ℕ) (n : ℕ) (ties : List ℕ) (v : ℕ) → n < 8 → Counting more before n ties → v ≡ get_or ties n 0 + over_column more n
    → Counting more before (n + 1) (set ties n v)
counting_more more before n ties v l h ev =
    record {
      long = length-set ties n v ∙ h.long;
      made = λ k m. at k m (ℕ_discrete k n);
      kept = λ k m. get_or-set_other ties n k v 0 (λ e. omega arith) ∙ h.kept k (omega arith);
    }
  where
    at : (k : ℕ) → k < n + 1 → Dec (k ≡ n) → get_or (set ties n v) k 0 ≡ get_or before k 0 + over_column more k
    at k m (yes q) =
        ap (λ (j : ℕ). get_or (set ties n v) j 0) q ∙ get_or-set_same ties n v 0 (omega (arith, h.long)) ∙ ev ∙ cc (h.kept n (omega arith), q)
    at k m (no q) = get_or-set_other ties n k v 0 q ∙ h.made k (omega arith)

-- the four lanes of a column, as the code adds them up
pub column_sum : (more : ℕ → ℕ) (n x a b c d : ℕ) → a ≡ more n → b ≡ more (8 + n) → c ≡ more (16 + n) → d ≡ more (24 + n)
    → x + a + b + c + d ≡ x + over_column more n
column_sum more n x a b c d ea eb ec ed = sum x a b c d ∙ cc (ea, eb, ec, ed)
  where
    sum : (x a b c d : ℕ) → x + a + b + c + d ≡ x + (a + b + c + d)
    sum x a b c d = omega arith

-- and there is room for it
pub room_kept : (more : ℕ → ℕ) (before : List ℕ) (n : ℕ) (ties : List ℕ) (m : ℕ) → n < 8 → Room m before → Counting more before n ties → get_or ties n 0 + m < 2 ^ 32
room_kept more before n ties m l r h = omega (arith, r.free n l, h.kept n (omega arith))

pub counting_end : (more : ℕ → ℕ) (before : List ℕ) (n : ℕ) (ties : List ℕ) → 8 ≤ n → Counting more before n ties → ties ≡ counted before more
unfolding counted
counting_end more before n ties l h =
    ext_get_or 0 ties (build 8 (λ c. get_or before c 0 + over_column more c)) (h.long ∙ sym (length_build 8 _))
    (λ c m. h.made c (omega (arith, h.long)) ∙ sym (get_d_build 8 (λ c. get_or before c 0 + over_column more c) c (omega (arith, h.long))))

nothing_more : (n a b c d : ℕ) → a ≡ 0 → b ≡ 0 → c ≡ 0 → d ≡ 0 → n ≡ n + (a + b + c + d)
nothing_more n a b c d p q r s = omega arith

-- with nothing to count, all are counted as they are
pub counted_none : (ties : List ℕ) (f : ℕ → ℕ) → length ties ≡ 8 → ((L : ℕ) → L < 32 → f L ≡ 0) → ties ≡ counted ties f
counted_none ties f e h =
    counting_end f ties 8 ties (omega arith)
    (record {
      long = e;
      made =
          λ c l.
          nothing_more (get_or ties c 0) (f c) (f (8 + c)) (f (16 + c)) (f (24 + c)) (h c (omega arith)) (h (8 + c) (omega arith)) (h (16 + c) (omega arith))
          (h (24 + c) (omega arith));
      kept = λ c l. refl;
    })

-- counted twice
pub counted_twice : (counts : List ℕ) (f g : ℕ → ℕ) → counted (counted counts f) g ≡ counted counts (λ L. f L + g L)
unfolding counted
counted_twice counts f g =
    build_same 8 _ _
    (λ c l.
    ap (λ (n : ℕ). n + over_column g c) (get_d_build 8 (λ c. get_or counts c 0 + over_column f c) c l)
    ∙ both (get_or counts c 0) (f c) (f (8 + c)) (f (16 + c)) (f (24 + c)) (g c) (g (8 + c)) (g (16 + c)) (g (24 + c)))
  where
    both : (n a b c d x y z w : ℕ) → n + (a + b + c + d) + (x + y + z + w) ≡ n + ((a + x) + (b + y) + (c + z) + (d + w))
    both n a b c d x y z w = omega arith

pub length_counted : (counts : List ℕ) (f : ℕ → ℕ) → length (counted counts f) ≡ 8
unfolding counted
length_counted counts f = length_build 8 (λ c. get_or counts c 0 + over_column f c)

-- room for fewer, and after a count
pub room_less : (m n : ℕ) (counts : List ℕ) → m ≤ n → Room n counts → Room m counts
room_less m n counts l r = record { eight = r.eight; free = λ c h. omega (arith, r.free c h) }

pub room_after : (m n k : ℕ) (before counts : List ℕ) (f : ℕ → ℕ) → k + n ≤ m → Room m before → ((c : ℕ) → over_column f c ≤ k) → counts ≡ counted before f → Room n counts
unfolding counted
room_after m n k before counts f l r h e =
    record {
      eight = ap length e ∙ length_build 8 (λ c. get_or before c 0 + over_column f c);
      free =
          λ c j.
          omega (arith, r.free c j, h c, ap (λ (x : List ℕ). get_or x c 0) e ∙ get_d_build 8 (λ c. get_or before c 0 + over_column f c) c j);
    }

-- ---- a SWAP

-- mod other than 0: the rule's test is that of the rows
pub tied_rows : (i : Insn) (free : Bool) (image c d before ties : List ℕ) → (i.md ≡ 0 → ⊥) → free ≡ ltb i.vd 12
    → c ≡ row (λ L. reg L (lane_in image L) i.vc)
    → d ≡ row (λ L. reg L (lane_in image L) i.vd)
    → ties ≡ counted before (λ L. flag_of (tied_by free (get_or c L 0) (get_or d L 0) (lane_in image L)))
    → ties ≡ counted before (λ L. flag_of (tied i L (lane_in image L)))
unfolding tied tied_with
tied_rows i free image c d before ties m f ec ed e =
    e
    ∙ counted_same before _ _
    (λ L l.
    cc (f, operand c (λ L. reg L (lane_in image L) i.vc) ec L l, operand d (λ L. reg L (lane_in image L) i.vd) ed L l)
    ∙ ap (λ (t : Bool). flag_of (not t && tied_by (ltb i.vd 12) (reg L (lane_in image L) i.vc) (reg L (lane_in image L) i.vd) (lane_in image L)))
    (sym (ne_eqb i.md 0 m)))

-- mod 0: none
pub tied_none : (i : Insn) (image ties : List ℕ) → length ties ≡ 8 → i.md ≡ 0 → ties ≡ counted ties (λ L. flag_of (tied i L (lane_in image L)))
unfolding tied tied_with flag_of pick
tied_none i image ties e m = counted_none ties _ e (λ L l. simp (eq-eqb i.md 0 m))

-- ---- an instruction

pub swap_ties : (i : Insn) (image before ties : List ℕ) → i.op ≡ 4 → ties ≡ counted before (λ L. flag_of (tied i L (lane_in image L)))
    → ties ≡ counted before (tie_in i image)
unfolding is_tied
swap_ties i image before ties o e =
    e ∙ counted_same before _ _ (λ L l. ap (λ (t : Bool). flag_of (t && tied i L (lane_in image L))) (sym (eq-eqb i.op 4 o)))

pub no_ties : (i : Insn) (image ties : List ℕ) → length ties ≡ 8 → (i.op ≡ 4 → ⊥) → ties ≡ counted ties (tie_in i image)
unfolding is_tied flag_of pick
no_ties i image ties e o = counted_none ties (tie_in i image) e (λ L l. simp (ne_eqb i.op 4 o))

pub other_op : (op n : ℕ) → op ≡ n → eqb n 4 ≡ false → op ≡ 4 → ⊥
other_op op n e h o = eqb-false n 4 h (sym e ∙ o)

-- ---- a list

-- what a column's four lanes have at most n of, an instruction, comes to at most n for each
pub few_counts : (more : Insn → Machine → ℕ → ℕ) (n : ℕ) → ((i : Insn) (m : Machine) (c : ℕ) → over_column (more i m) c ≤ n)
    → (s : Settings) (list : List ℕ) (k : ℕ) (m : Machine) (c : ℕ)
    → count_after more s list k m c ≤ k * n
unfolding count_after
few_counts more n h s list zero m c = omega arith
few_counts more n h s list (suc k) m c =
    le_trans (add-le-add (few_counts more n h s list k m c) (h (insn_at list k) (steps s list k m) c)) (le_of_eq (sym (suc-mul k n)))

four_ties : (i : Insn) (m : Machine) (c : ℕ) → over_column (ties_by i m) c ≤ 4
four_ties i m c = omega (arith, flag_small (tie c), flag_small (tie (8 + c)), flag_small (tie (16 + c)), flag_small (tie (24 + c)))
  where
    tie : ℕ → Bool
    tie L = is_tied i.op i L (lane_in m.image L)

pub few_ties : (s : Settings) (list : List ℕ) (k : ℕ) (m : Machine) (c : ℕ) → count_after ties_by s list k m c ≤ k * 4
few_ties s list k m c = few_counts ties_by 4 four_ties s list k m c

pub few_stores : (s : Settings) (list : List ℕ) (k : ℕ) (m : Machine) (c : ℕ) → count_after (stores_by s) s list k m c ≤ k * 16
few_stores s list k m c = few_counts (stores_by s) 16 sixteen s list k m c
  where
    four : (i : Insn) (m : Machine) (L : ℕ) → stores_by s i m L ≤ 4
    four i m L = at_most_four i.op s (address i.imm s.offset m.cursor) i L (lane_in m.image (L % 8)) _ _ (lane_in m.image L)

    sixteen : (i : Insn) (m : Machine) (c : ℕ) → over_column (stores_by s i m) c ≤ 16
    sixteen i m c = omega (arith, four i m c, four i m (8 + c), four i m (16 + c), four i m (24 + c))

-- so there is room
pub room_left : (s : Settings) (list : List ℕ) (n : ℕ) (m : Machine) (ties : List ℕ) → n ≤ list_limit → ties ≡ build 8 (count_after ties_by s list n m) → Room 4 ties
room_left s list n m ties l e =
    record {
      eight = ap length e ∙ length_build 8 (count_after ties_by s list n m);
      free =
          λ c h.
          small (get_or ties c 0) (count_after ties_by s list n m c) (ap (λ (x : List ℕ). get_or x c 0) e ∙ get_d_build 8 (count_after ties_by s list n m) c h)
          (few_ties s list n m c);
    }
  where
    small : (x y : ℕ) → x ≡ y → y ≤ n * 4 → x + 4 < 2 ^ 32
    small x y p q = omega arith

-- eight zeros, as code writes them
pub zeros_are : 0 ∷ 0 ∷ 0 ∷ 0 ∷ 0 ∷ 0 ∷ 0 ∷ 0 ∷ [] ≡ no_counts
unfolding build
zeros_are = refl

pub counts_start : (more : Insn → Machine → ℕ → ℕ) (s : Settings) (list : List ℕ) (m : Machine) → no_counts ≡ build 8 (count_after more s list 0 m)
unfolding count_after
counts_start more s list m = refl

pub counts_more : (more : Insn → Machine → ℕ → ℕ) (s : Settings) (list : List ℕ) (k : ℕ) (m : Machine) (f : ℕ → ℕ) (before counts : List ℕ)
    → before ≡ build 8 (count_after more s list k m)
    → ((L : ℕ) → L < 32 → f L ≡ more (insn_at list k) (steps s list k m) L)
    → counts ≡ counted before f
    → counts ≡ build 8 (count_after more s list (k + 1) m)
unfolding counted count_after
counts_more more s list k m f before counts b h e =
    e ∙ build_same 8 _ _ (λ c l. at c l) ∙ ap (λ (n : ℕ). build 8 (count_after more s list n m)) (sym (add-one k))
  where
    at : (c : ℕ) → c < 8 → get_or before c 0 + over_column f c ≡ count_after more s list k m c + over_column (more (insn_at list k) (steps s list k m)) c
    at c l =
        cc (
          ap (λ (x : List ℕ). get_or x c 0) b ∙ get_d_build 8 (count_after more s list k m) c l,
          h c (omega arith),
          h (8 + c) (omega arith),
          h (16 + c) (omega arith),
          h (24 + c) (omega arith),
        )

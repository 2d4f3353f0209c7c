-- The computing operations, from rows of operands to the rules of each lane. Assumes nothing.
use Rattle.std.proofs.Common.{◌≡◌, ℕ, zero, suc, ◌+◌, ◌-◌, ◌*◌, ◌/◌, ◌%◌, ◌^◌, ◌<◌, ◌≤◌, Bool, true, false, not, ◌&&◌, ◌||◌, eqb, ltb, List, [], ◌∷◌, get_or, sym, refl, ap, ◌∙◌, true≢false, mod-eq_of_lt, arith, lt-ltb, eq-eqb, ne_eqb}
use native.Mathlib.Decide.{ℕ_discrete}
use lib.Bits.{bit_and, bit_or, or_add_and, and_le_r, or_shr, or_zero_r, and_mask}
use lib.Count.{count_leading_zeros, leading_le, leading_of_zero}
use Rattle.lane.specs.declared.Insn.{Insn}
use Rattle.lane.specs.Words.{pick, has, magnitude, Lane, Stores, lane_flag, enabled, reg, upd, after}
use Rattle.lane.specs.Compute.{computes, word_only, word_and_flag, flag_after, lz_operand, lz_word, other, abs_word, exman_word, value_word, valued_with, valued, iadd_with, iadd, lz_with, lz, exexp_with, exexp}
use Rattle.lane.proofs.Cases.{pick_true, pick_false, has_one}
use Rattle.lane.proofs.Stores.{upd_same, upd_other}
use Rattle.runner.specs.Image.{lane_in}
use Rattle.runner.specs.PrivateRows.{row, Enabled, storing}
use Rattle.runner.specs.PrivateCompute.{sets_flags, with_mod, lz_limit, lz_count, lz_from, word_of, truth_of, word_with, flagged_with}
use Rattle.runner.proofs.Filled.{operand}
use Rattle.runner.proofs.Lanes.{same_lanes, storing_same}
use Rattle.runner.proofs.Enabled.{quiet_enabled}
use Rattle.runner.proofs.Quiet.{quiet_word}
use Rattle.runner.proofs.Operands.{reg_low, vb_unread, valued_lane}

-- ---- a word alone

neither : (a b : Bool) → (a || b) ≡ false → (a ≡ false) × (b ≡ false)
neither true b e = absurd (true≢false e)
neither false b e = (refl, e)

word_is : (op : ℕ) (i : Insn) (b c d : ℕ) → sets_flags op ≡ false → word_of op i b c d ≡ value_word op i.md b c d
unfolding word_of pick
word_is op i b c d e =
    let p = neither (eqb op 6) (eqb op 12 || eqb op 13) e in
    let q = neither (eqb op 12) (eqb op 13) p.1 in
    simp (p.0, q.0, q.1)

valued_with_lem : (op : ℕ) (i : Insn) (b c : ℕ) (own : Lane) → sets_flags op ≡ false → word_with op i b c own ≡ valued_with op i b c (own i.vd) own
unfolding word_with valued_with
valued_with_lem op i b c own e = ap (λ (w : ℕ). word_only i.vd w own) (word_is op i b c (own i.vd) e)

-- vb's row is not read, and mod is odd or even
mod_parity : (op m n b c d : ℕ) → (eqb op 8 || eqb op 9) ≡ false → has m 1 ≡ has n 1 → value_word op m b c d ≡ value_word op n b c d
unfolding value_word abs_word exman_word pick
mod_parity op m n b c d u e =
    let p = neither (eqb op 8) (eqb op 9) u in
    simp (p.0, p.1, e)

pub valued_one : (op : ℕ) (i : Insn) (m L : ℕ) (own : Lane) (b c : ℕ) → sets_flags op ≡ false → (eqb op 8 || eqb op 9) ≡ false → has m 1 ≡ has i.md 1
    → i.vd < 8 → c ≡ reg L own i.vc
    → word_with op (with_mod i m) b c own ≡ valued op i L own
unfolding valued_with
valued_one op i m L own b c e u p h k =
    valued_with_lem op (with_mod i m) b c own e
    ∙ ap (λ (w : ℕ). word_only i.vd w own) (mod_parity op m i.md b c (own i.vd) u p)
    ∙ vb_unread op i b (reg L own i.vb) c (own i.vd) own (ap (λ (t : Bool). t && has i.md 1) u)
    ∙ valued_lane op i L own (reg L own i.vb) c h refl k

-- vb's row, or vd's where mod is even: AND and OR of it and vc's
two_words : (op : ℕ) (m b c d v : ℕ) → (eqb op 8 || eqb op 9) ≡ true → b ≡ pick (has m 1) v d → value_word op 1 b c d ≡ value_word op m v c d
unfolding value_word other pick
two_words op m b c d v u e = by (ℕ_discrete op 8) (ℕ_discrete op 9)
  where
    by : Dec (op ≡ 8) → Dec (op ≡ 9) → value_word op 1 b c d ≡ value_word op m v c d
    by (yes q) r = rw q (ap (λ (x : ℕ). bit_and x c) e)
    by (no q) (yes r) = rw r (ap (λ (x : ℕ). bit_or x c) e)
    by (no q) (no r) = absurd (true≢false (sym u ∙ simp (ne_eqb op 8 q, ne_eqb op 9 r)))

pub valued_two : (op : ℕ) (i : Insn) (L : ℕ) (own : Lane) (b c r : ℕ) → sets_flags op ≡ false → (eqb op 8 || eqb op 9) ≡ true → i.vd < 8
    → r ≡ pick (eqb (i.md % 2) 1) i.vb i.vd → b ≡ reg L own r → c ≡ reg L own i.vc
    → word_with op (with_mod i 1) b c own ≡ valued op i L own
unfolding valued_with
valued_two op i L own b c r e u h er eb k =
    valued_with_lem op (with_mod i 1) b c own e
    ∙ ap (λ (w : ℕ). word_only i.vd w own) (two_words op i.md b c (own i.vd) (reg L own i.vb) u (eb ∙ by (has i.md 1) refl))
    ∙ valued_lane op i L own (reg L own i.vb) c h refl k
  where
    by : (t : Bool) → has i.md 1 ≡ t → reg L own r ≡ pick (has i.md 1) (reg L own i.vb) (own i.vd)
    by true q =
        ap (λ (x : ℕ). reg L own x) (er ∙ pick_true (eqb (i.md % 2) 1) i.vb i.vd (sym (has_one i.md) ∙ q))
        ∙ sym (pick_true (has i.md 1) (reg L own i.vb) (own i.vd) q)
    by false q =
        ap (λ (x : ℕ). reg L own x) (er ∙ pick_false (eqb (i.md % 2) 1) i.vb i.vd (sym (has_one i.md) ∙ q)) ∙ reg_low L own i.vd h
        ∙ sym (pick_false (has i.md 1) (reg L own i.vb) (own i.vd) q)

-- ---- a word and a flag

iadd_flagged : (i : Insn) (L : ℕ) (own : Lane) (b c : ℕ) → i.vd < 8 → c ≡ reg L own i.vc
    → flagged_with 6 i (not (has i.md 4)) b c own ≡ iadd i L own
unfolding flagged_with word_of truth_of pick iadd iadd_with
iadd_flagged i L own b c h e = cc (reg_low L own i.vd h)

exexp_flagged : (i : Insn) (L : ℕ) (own : Lane) (b c : ℕ) → c ≡ reg L own i.vc → flagged_with 13 i (has i.md 2) b c own ≡ exexp i L own
unfolding flagged_with word_of truth_of pick exexp exexp_with
exexp_flagged i L own b c e = cc

-- the same of every lane, the row of vc copied
module _ (i : Insn) (image c x : List ℕ) (e : c ≡ row (λ L. reg L (lane_in image L) i.vc)) where
  pub iadd_rows : i.vd < 8 → x ≡ storing image (λ L. flagged_with 6 i (not (has i.md 4)) (get_or c L 0) (get_or c L 0) (lane_in image L))
      → x ≡ storing image (λ L. iadd i L (lane_in image L))
  iadd_rows l p = p ∙ storing_same image _ _ (λ L k. iadd_flagged i L (lane_in image L) _ _ l (operand c _ e L k))

  pub exexp_rows : x ≡ storing image (λ L. flagged_with 13 i (has i.md 2) (get_or c L 0) (get_or c L 0) (lane_in image L))
      → x ≡ storing image (λ L. exexp i L (lane_in image L))
  exexp_rows p = p ∙ storing_same image _ _ (λ L k. exexp_flagged i L (lane_in image L) _ _ (operand c _ e L k))

-- 32 zeros are counted in no word but 0
count_below : (x : ℕ) → ltb (count_leading_zeros 32 x) 32 ≡ not (eqb x 0)
unfolding count_leading_zeros
count_below zero = refl
count_below (suc n) =
    lt-ltb (count_leading_zeros 31 (suc n / 2)) 32 (omega (arith, leading_le 31 (suc n / 2))) ∙ sym (ap not (ne_eqb (suc n) 0 (λ e. omega arith)))

-- the operand is vc cut by the limit
pub limit_is : (m c : ℕ) → c < 2 ^ 32 → bit_and c (lz_limit m) ≡ lz_operand m c
unfolding lz_limit lz_operand
limit_is m c h = by (ℕ_discrete (m / 4 % 2) 1)
  where
    by : Dec (m / 4 % 2 ≡ 1) → bit_and c (0xFFFFFFFF - m / 4 % 2 * 0x80000000) ≡ pick (has m 4) (magnitude c) c
    by (yes e) =
        ap (λ (k : ℕ). bit_and c (0xFFFFFFFF - k * 0x80000000)) e ∙ and_mask c 31 ∙ sym (pick_true (has m 4) (magnitude c) c (eq-eqb (m / 4 % 2) 1 e))
    by (no e) =
        let none : m / 4 % 2 ≡ 0 = omega arith in
        ap (λ (k : ℕ). bit_and c (0xFFFFFFFF - k * 0x80000000)) none ∙ and_mask c 32 ∙ mod-eq_of_lt h
        ∙ sym (pick_false (has m 4) (magnitude c) c (ne_eqb (m / 4 % 2) 1 e))

-- setting the lowest digit changes no count but zero's
halved : (y : ℕ) → 0 < y → count_leading_zeros 32 y ≡ count_leading_zeros 31 (y / 2)
unfolding count_leading_zeros
halved zero l = absurd (none l)
  where
    none : 0 < 0 → ⊥
    none l = omega arith
halved (suc y) l = refl

lz_whole : (x : ℕ) → (count_leading_zeros 32 (bit_or x 1) + pick (eqb x 0) 1 0) % 2 ^ 32 ≡ count_leading_zeros 32 x
unfolding pick
lz_whole zero =
    ap (λ (k : ℕ). (k + 1) % 2 ^ 32) (halved 1 (omega arith) ∙ leading_of_zero 31) ∙ sym (leading_of_zero 32)
lz_whole (suc n) =
    let odd : 0 < bit_or (suc n) 1 = omega (arith, or_add_and (suc n) 1, and_le_r (suc n) 1) in
    let same : count_leading_zeros 32 (bit_or (suc n) 1) ≡ count_leading_zeros 32 (suc n) =
    halved (bit_or (suc n) 1) odd ∙ ap (λ (k : ℕ). count_leading_zeros 31 k) (or_shr (suc n) 1 1 ∙ or_zero_r (suc n / 2))
    ∙ sym (halved (suc n) (omega arith)) in
    ap (λ (k : ℕ). (k + pick (eqb (suc n) 0) 1 0) % 2 ^ 32) same
    ∙ ap (λ (t : Bool). (count_leading_zeros 32 (suc n) + pick t 1 0) % 2 ^ 32) (ne_eqb (suc n) 0 (λ e. omega arith)) ∙ small (count_leading_zeros 32 (suc n)) (leading_le 32 (suc n))
  where
    small : (k : ℕ) → k ≤ 32 → (k + 0) % 2 ^ 32 ≡ k
    small k h = omega arith

pub lz_word_from : (m c : ℕ) → lz_from m (lz_count m c) c ≡ lz_word m c
unfolding lz_from lz_count
lz_word_from m c = lz_whole (lz_operand m c)

pub lz_flagged : (i : Insn) (L : ℕ) (own : Lane) (c b : ℕ) → c ≡ reg L own i.vc → b ≡ lz_count i.md c
    → flagged_with 12 i (has i.md 2) b c own ≡ lz i L own
unfolding flagged_with word_of truth_of pick lz lz_with
lz_flagged i L own c b e k =
    ap (λ (x : ℕ). word_and_flag i.vd x (flag_after (has i.md 2) (ltb x 32) i.md (own lane_flag)) own)
    (ap (λ (x : ℕ). lz_from i.md x c) k ∙ lz_word_from i.md c ∙ ap (λ (x : ℕ). lz_word i.md x) e)
    ∙ ap (λ (t : Bool). word_and_flag i.vd (lz_word i.md (reg L own i.vc)) (flag_after (has i.md 2) t i.md (own lane_flag)) own)
    (count_below (lz_operand i.md (reg L own i.vc)))

-- ---- where no flag is set and none inverted

untouched_flag : (sets t : Bool) (m old : ℕ) → (sets || has m 8) ≡ false → flag_after sets t m old ≡ old
unfolding flag_after pick
untouched_flag sets t m old e = let p = neither sets (has m 8) e in simp (p.0, p.1)

-- the flag stored again is none stored
same_flag : (vd w : ℕ) (own : Lane) (s : ℕ) → after (word_only vd w own) own s ≡ after (word_and_flag vd w (own 13) own) own s
unfolding word_only word_and_flag after
same_flag vd w own s = by (computes vd own) refl (ℕ_discrete s 13) (ℕ_discrete 13 vd)
  where
    by : (t : Bool) → computes vd own ≡ t → Dec (s ≡ 13) → Dec (13 ≡ vd)
        → after (pick (computes vd own) ((vd, w) ∷ []) []) own s ≡ after (pick (computes vd own) ((vd, w) ∷ (13, own 13) ∷ []) []) own s
    by false q d f =
        ap (λ (x : Stores). after x own s) (pick_false (computes vd own) ((vd, w) ∷ []) [] q)
        ∙ sym (ap (λ (x : Stores). after x own s) (pick_false (computes vd own) ((vd, w) ∷ (13, own 13) ∷ []) [] q))
    by true q (no d) f =
        ap (λ (x : Stores). after x own s) (pick_true (computes vd own) ((vd, w) ∷ []) [] q)
        ∙ sym
        (ap (λ (x : Stores). after x own s) (pick_true (computes vd own) ((vd, w) ∷ (13, own 13) ∷ []) [] q)
        ∙ upd_other (upd own vd w) 13 (own 13) s d)
    by true q (yes d) (no f) =
        ap (λ (x : Stores). after x own s) (pick_true (computes vd own) ((vd, w) ∷ []) [] q)
        ∙ ap (λ (k : ℕ). upd own vd w k) d ∙ upd_other own vd w 13 f
        ∙ sym
        (ap (λ (x : Stores). after x own s) (pick_true (computes vd own) ((vd, w) ∷ (13, own 13) ∷ []) [] q)
        ∙ ap (λ (k : ℕ). upd (upd own vd w) 13 (own 13) k) d ∙ upd_same (upd own vd w) 13 (own 13))
    by true q (yes d) (yes f) = absurd (low q f)
      where
        low : computes vd own ≡ true → 13 ≡ vd → ⊥
        low q f = true≢false (sym q ∙ ap (λ (k : ℕ). ltb k 8 && enabled own) (sym f))

pub untouched : (op : ℕ) (i : Insn) (sets : Bool) (b c : ℕ → ℕ) (image x : List ℕ) → (sets || has i.md 8) ≡ false
    → x ≡ storing image (λ L. word_with op i (b L) (c L) (lane_in image L))
    → x ≡ storing image (λ L. flagged_with op i sets (b L) (c L) (lane_in image L))
unfolding storing word_with flagged_with
untouched op i sets b c image x e p =
    p
    ∙ same_lanes _ _
    (λ L s hL hs.
    same_flag i.vd (word_of op i (b L) (c L) (lane_in image L i.vd)) (lane_in image L) s
    ∙ ap (λ (f : ℕ). after (word_and_flag i.vd (word_of op i (b L) (c L) (lane_in image L i.vd)) f (lane_in image L)) (lane_in image L) s)
    (sym (untouched_flag sets _ i.md (lane_in image L 13) e)))

-- the row of enabled lanes stays
pub words_enabled : (op : ℕ) (i : Insn) (b c : ℕ → ℕ) (image x go : List ℕ) → Enabled go image
    → x ≡ storing image (λ L. word_with op i (b L) (c L) (lane_in image L))
    → Enabled go x
unfolding word_with
words_enabled op i b c image x go g p =
    quiet_enabled go image x _ (λ L l. quiet_word i.vd _ (lane_in image L)) g p

-- The quick test of an instruction says yes to exactly those that draw no refusal; the union of the lanes' words is well formed exactly if each is. Assumes nothing.
use Rattle.std.proofs.Common.{◌≡◌, ℕ, zero, suc, ◌+◌, ◌-◌, ◌*◌, ◌%◌, ◌^◌, ◌<◌, ◌≤◌, Bool, true, false, not, ◌&&◌, ◌||◌, eqb, ltb, leb, List, get_or, sym, refl, ap, ◌∙◌, ap₂, mod-lt, mod-eq_of_lt, add-one, arith, pow_pos, le-ltb, lt-ltb, eq-eqb, ne_eqb, eqb-true, le-leb}
use lib.Pow.{recompose}
use mathlib.Core.Bool.{beq, and-true, and-false, or-true, and_assoc, and_comm}
use lib.Bits.{bit_and, bit_or, or_add_and, and_le_l, and_le_r, and_block, and_high, or_lt}
use lib.Count.{count_leading_zeros}
use borrow.Author.Tests.{eqb-false, lt-leb}
use Rattle.lane.specs.declared.Insn.{Insn}
use Rattle.lane.specs.Words.{pick, bit}
use Rattle.lane.specs.Refusals.{imm_limits, vb_limits, vc_limits, vd_limits, within, mod_allowed, op_known, wide_load, pass, fields_good, instruction_answer, well_formed, well_formed_by}
use Rattle.lane.proofs.Tables.{and_left, and_right, all_below, below_all}
use Rattle.runner.specs.Image.{lane_in, lanes_good}
use Rattle.runner.proofs.Lanes.{split}
use Rattle.runner.specs.PrivateQuick.{pair, past, over, plain_mods, over_of, none_over, plain}

-- ---- bits past a limit

both_zero : (n a b : ℕ) → (n ≡ 0 → (a ≡ 0) × (b ≡ 0)) → (a ≡ 0 → b ≡ 0 → n ≡ 0) → eqb n 0 ≡ (eqb a 0 && eqb b 0)
both_zero n a b f g = by (eqb a 0) (eqb b 0) refl refl
  where
    by : (s t : Bool) → eqb a 0 ≡ s → eqb b 0 ≡ t → eqb n 0 ≡ (s && t)
    by true true p q = eq-eqb n 0 (g (eqb-true a 0 p) (eqb-true b 0 q))
    by true false p q = ne_eqb n 0 (λ e. eqb-false b 0 q (f e).1)
    by false t p q = ne_eqb n 0 (λ e. eqb-false a 0 p (f e).0)

pub no_or : (a b : ℕ) → bit_or a b ≡ 0 → (a ≡ 0) × (b ≡ 0)
no_or a b e = (omega (arith, or_add_and a b, and_le_l a b, and_le_r a b), omega (arith, or_add_and a b, and_le_l a b, and_le_r a b))

or_zero : (a b : ℕ) → eqb (bit_or a b) 0 ≡ (eqb a 0 && eqb b 0)
or_zero a b = both_zero (bit_or a b) a b (no_or a b) (λ p q. omega (arith, or_add_and a b))

-- a limit of w ones: what x has past it is none exactly where x is within it
within_ones : (w limit x : ℕ) → w ≤ 32 → limit + 1 ≡ 2 ^ w → x < 2 ^ 32 → eqb (bit_and x (past limit)) 0 ≡ leb x limit
within_ones w limit x hw e h =
    split x (2 ^ w) (λ p. ne_eqb (bit_and x (past limit)) 0 (λ z. omega (arith, whole, mod-lt x (pow_pos w))) ∙ sym (lt-leb x limit (omega arith)))
    (λ p. eq-eqb (bit_and x (past limit)) 0 (omega (arith, whole, mod-eq_of_lt p)) ∙ sym (le-leb x limit (omega arith)))
  where
    all : 32 - w + w ≡ 32
    all = omega arith

    whole : bit_and x (past limit) + x % 2 ^ w ≡ x
    whole =
        ap (λ (m : ℕ). bit_and x m + x % 2 ^ w) (omega arith) ∙ ap (λ (k : ℕ). bit_and x (2 ^ k - 2 ^ w) + x % 2 ^ w) (sym all)
        ∙ ap (λ (n : ℕ). n + x % 2 ^ w) (and_high x (32 - w) w) ∙ recompose (32 - w) w (rw all h)

-- whether a limit is ones alone
abbrev ones : ℕ → Bool
ones limit = eqb (limit + 1) (2 ^ (32 - count_leading_zeros 32 limit))

pair_within : (a b l m : ℕ) → a < 2 ^ 32 → b < 2 ^ 32 → ones l ≡ true → ones m ≡ true
    → eqb (bit_and (pair a b) (pair (past l) (past m))) 0 ≡ (leb a l && leb b m)
pair_within a b l m ha hb hl hm =
    both_zero (bit_and (pair a b) (pair (past l) (past m))) (bit_and a (past l)) (bit_and b (past m)) (λ e. (omega (arith, whole), omega (arith, whole)))
    (λ p q. omega (arith, whole))
    ∙ ap₂ ◌&&◌ (field a l hl ha) (field b m hm hb)
  where
    field : (x limit : ℕ) → ones limit ≡ true → x < 2 ^ 32 → eqb (bit_and x (past limit)) 0 ≡ leb x limit
    field x limit o h = within_ones (32 - count_leading_zeros 32 limit) limit x (omega arith) (eqb-true _ _ o) h

    swap : (x y : ℕ) → x + y ≡ y + x
    swap x y = omega arith

    whole : bit_and (pair a b) (pair (past l) (past m)) ≡ bit_and b (past m) * 2 ^ 32 + bit_and a (past l)
    whole = ap₂ bit_and (swap a (b * 2 ^ 32)) (swap (past l) (past m * 2 ^ 32)) ∙ and_block 32 b (past m) a (past l) ha (omega arith)

-- ---- the instruction

pub record Words32 (i : Insn) : Type 0 where
  pub op : i.op < 2 ^ 32
  pub imm : i.imm < 2 ^ 32
  pub vb : i.vb < 2 ^ 32
  pub vc : i.vc < 2 ^ 32
  pub vd : i.vd < 2 ^ 32
  pub md : i.md < 2 ^ 32

-- every limit of a table is ones alone; past the last op it is 0
all_ones : (limits : List ℕ) (k : ℕ) → all_below 32 (λ k. ones (get_or limits k 0)) ≡ true → k < 32 → ones (get_or limits k 0) ≡ true
all_ones limits k t h = below_all 32 (λ k. ones (get_or limits k 0)) k t h

-- no field is over exactly where each is within its limit, op below 32 and mod below 16
fields_are : (i : Insn) (k : ℕ) → Words32 i → k < 32
    → none_over (over_of k) i
    ≡ (leb i.op 31 && within imm_limits k i.imm && (within vb_limits k i.vb && within vc_limits k i.vc) && (within vd_limits k i.vd && leb i.md 15))
unfolding none_over over_of over count_leading_zeros
fields_are i k h l =
    simp (
      or_zero,
      pair_within i.op i.imm 31 (get_or imm_limits k 0) h.op h.imm refl (all_ones imm_limits k refl l),
      pair_within i.vb i.vc (get_or vb_limits k 0) (get_or vc_limits k 0) h.vb h.vc (all_ones vb_limits k refl l) (all_ones vc_limits k refl l),
      pair_within i.vd i.md (get_or vd_limits k 0) 15 h.vd h.md (all_ones vd_limits k refl l) refl,
    )

-- the table has exactly the mods that draw no refusal, where vb is 0 and where it isn't
abbrev allowed : ℕ → ℕ → Bool → Bool
allowed k m z =
    op_known k && mod_allowed k m && not (wide_load k m) && ((z || not (eqb (get_or vb_limits k 0) 0)) && (z || not (eqb k 8 || eqb k 9) || eqb m 1))

abbrev listed : ℕ → ℕ → Bool → Bool
listed k m z = bit (get_or plain_mods k 0) ((m % 32 + pick z 0 16) % 32)

abbrev alike : ℕ → ℕ → Bool
alike k m = beq (listed k m true) (allowed k m true) && beq (listed k m false) (allowed k m false)

all_alike : all_below 32 (λ k. all_below 16 (alike k)) ≡ true
unfolding pick
all_alike = refl

mods_are : (k m : ℕ) (z : Bool) → k < 32 → m < 16 → listed k m z ≡ allowed k m z
mods_are k m z hk hm = by z (below_all 16 (alike k) m (below_all 32 (λ k. all_below 16 (alike k)) k all_alike hk) hm)
  where
    same : (a b : Bool) → beq a b ≡ true → a ≡ b
    same true true h = refl
    same true false h = sym h
    same false true h = h
    same false false h = refl

    by : (z : Bool) → alike k m ≡ true → listed k m z ≡ allowed k m z
    by true h = same (listed k m true) (allowed k m true) (and_left _ (beq (listed k m false) (allowed k m false)) h)
    by false h = same (listed k m false) (allowed k m false) (and_right (beq (listed k m true) (allowed k m true)) _ h)

-- none is refused exactly where all three tests hold
answer_zero : (a b c : Bool) → eqb (pass a 7 (pass b 8 (pass c 9 0))) 0 ≡ (a && b && c)
unfolding pass pick
answer_zero false b c = refl
answer_zero true false c = refl
answer_zero true true false = refl
answer_zero true true true = refl

-- a field that isn't 0 has a limit that isn't
not_zero : (x l : ℕ) → (leb x l && (eqb x 0 || not (eqb l 0))) ≡ leb x l
not_zero x l =
    split x 1 (λ p. split l x (λ q. simp (ne_eqb l 0 (λ e. omega arith), or-true, and-true)) (λ q. simp (lt-leb x l q)))
    (λ p. simp (eq-eqb x 0 (omega arith), and-true))

sorted : (p q r t k m n o d : Bool) → (p && (q && r) && (t && true) && (k && m && n && (o && d))) ≡ (k && (p && (q && o) && r && t && m && d && true) && n)
sorted p q r t k m n o d = simp (and_assoc, and_comm, left_comm)
  where
    left_comm : (a b c : Bool) → (a && (b && c)) ≡ (b && (a && c))
    left_comm true b c = refl
    left_comm false b c = sym (and-false b)

pub plain_exact : (i : Insn) → Words32 i → plain i ≡ eqb (instruction_answer true i) 0
unfolding over_of over instruction_answer fields_good
plain_exact i h =
    ap (λ (t : Bool). t && listed (i.op % 32) i.md (eqb i.vb 0)) (fields_are i (i.op % 32) h (omega arith))
    ∙ split i.op 32 (λ p. simp (lt-leb i.op 31 (omega arith), lt-leb i.op 16 (omega arith), and-false))
    (λ p.
    split i.md 16 (λ q. simp (lt-leb i.md 15 (omega arith), le-ltb i.md 16 q, and-false))
    (λ q.
    let k : i.op % 32 ≡ i.op = omega arith in
    rw (k, le-leb i.op 31 (omega arith), le-leb i.md 15 (omega arith), mods_are i.op i.md (eqb i.vb 0) p q, sorted, not_zero)))
    ∙ sym (answer_zero (op_known i.op) (fields_good i.op i && true) (not (wide_load i.op i.md)))

-- ---- the union of the lanes' words

-- of the first n lanes, in slot s
unfoldable pub union : List ℕ → ℕ → ℕ → ℕ
union image s zero = 0
union image s (suc n) = bit_or (union image s n) (lane_in image n s)

pub union_more : (image : List ℕ) (s n u w : ℕ) → u ≡ union image s n → w ≡ lane_in image n s → bit_or u w ≡ union image s (n + 1)
unfolding union
union_more image s n u w p q =
    ap (λ (x : ℕ). bit_or x w) p ∙ ap (λ (x : ℕ). bit_or (union image s n) x) q ∙ ap (λ (m : ℕ). union image s m) (sym (add-one n))

pub union_none : (image : List ℕ) (s : ℕ) → 0 ≡ union image s 0
unfolding union
union_none image s = refl

or_below : (k a b : ℕ) → ltb (bit_or a b) (2 ^ k) ≡ (ltb a (2 ^ k) && ltb b (2 ^ k))
or_below k a b =
    split a (2 ^ k) (λ p. above a p (omega (arith, or_add_and a b, and_le_r a b)) ∙ sym (ap (λ (t : Bool). t && ltb b (2 ^ k)) (le-ltb a (2 ^ k) p)))
    (λ p.
    split b (2 ^ k)
    (λ q. above b q (omega (arith, or_add_and a b, and_le_l a b)) ∙ sym (ap (λ (t : Bool). t && ltb b (2 ^ k)) (lt-ltb a (2 ^ k) p) ∙ le-ltb b (2 ^ k) q))
    (λ q.
    lt-ltb (bit_or a b) (2 ^ k) (or_lt k a b p q) ∙ sym (ap (λ (t : Bool). t && ltb b (2 ^ k)) (lt-ltb a (2 ^ k) p) ∙ lt-ltb b (2 ^ k) q)))
  where
    above : (x : ℕ) → 2 ^ k ≤ x → x ≤ bit_or a b → ltb (bit_or a b) (2 ^ k) ≡ false
    above x h l = le-ltb (bit_or a b) (2 ^ k) (omega arith)

exchange : (p q r s : Bool) → ((p && q) && (r && s)) ≡ ((p && r) && (q && s))
exchange false q r s = refl
exchange true false false s = refl
exchange true false true s = refl
exchange true true false s = refl
exchange true true true s = refl

unite : (c f u m c' f' u' m' : ℕ)
    → well_formed_by (bit_or c c') (bit_or f f') (bit_or u u') (bit_or m m') ≡ (well_formed_by c f u m && well_formed_by c' f' u' m')
unite c f u m c' f' u' m' =
    ap (λ (t : Bool). t && ltb (bit_or m m') (2 ^ 12) && ltb (bit_or f f') 2 && ltb (bit_or u u') 2) (or_below 18 c c')
    ∙ ap (λ (t : Bool). (ltb c (2 ^ 18) && ltb c' (2 ^ 18)) && t && ltb (bit_or f f') 2 && ltb (bit_or u u') 2) (or_below 12 m m')
    ∙ ap (λ (t : Bool). t && ltb (bit_or f f') 2 && ltb (bit_or u u') 2) (exchange (ltb c (2 ^ 18)) (ltb c' (2 ^ 18)) (ltb m (2 ^ 12)) (ltb m' (2 ^ 12)))
    ∙ ap (λ (t : Bool). ((ltb c (2 ^ 18) && ltb m (2 ^ 12)) && (ltb c' (2 ^ 18) && ltb m' (2 ^ 12))) && t && ltb (bit_or u u') 2) (or_below 1 f f')
    ∙ ap (λ (t : Bool). t && ltb (bit_or u u') 2)
    (exchange (ltb c (2 ^ 18) && ltb m (2 ^ 12)) (ltb c' (2 ^ 18) && ltb m' (2 ^ 12)) (ltb f 2) (ltb f' 2))
    ∙ ap (λ (t : Bool). ((ltb c (2 ^ 18) && ltb m (2 ^ 12) && ltb f 2) && (ltb c' (2 ^ 18) && ltb m' (2 ^ 12) && ltb f' 2)) && t) (or_below 1 u u')
    ∙ exchange (ltb c (2 ^ 18) && ltb m (2 ^ 12) && ltb f 2) (ltb c' (2 ^ 18) && ltb m' (2 ^ 12) && ltb f' 2) (ltb u 2) (ltb u' 2)

united : (image : List ℕ) (n : ℕ) → well_formed_by (union image 12 n) (union image 13 n) (union image 14 n) (union image 23 n) ≡ lanes_good image n
unfolding union lanes_good
united image zero = refl
united image (suc n) =
    unite (union image 12 n) (union image 13 n) (union image 14 n) (union image 23 n) (lane_in image n 12) (lane_in image n 13) (lane_in image n 14)
    (lane_in image n 23)
    ∙ ap (λ (t : Bool). t && well_formed (lane_in image n)) (united image n)

pub union_good : (image : List ℕ) (n c f u m : ℕ) → n ≡ 32 → c ≡ union image 12 n → f ≡ union image 13 n → u ≡ union image 14 n → m ≡ union image 23 n
    → well_formed_by c f u m ≡ lanes_good image 32
union_good image n c f u m e ec ef eu em = cc (united image n)

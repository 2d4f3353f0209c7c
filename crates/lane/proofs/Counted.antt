-- How many stores to registers each rule makes in a lane, and that none makes more than four. Assumes nothing.
use Rattle.std.proofs.Common.{◌≡◌, ℕ, ◌+◌, ◌-◌, ◌<◌, ◌≤◌, Bool, true, false, ◌&&◌, ◌||◌, eqb, ltb, [], ◌∷◌, ◌++◌, sym, refl, ap, ◌∙◌, add_assoc, lt_of_not-le, zero-add, arith, ltb-true, le-ltb, lt-ltb, ne_eqb, Some, None}
use native.Mathlib.Decide.{dec_le}
use lib.Ieee.{Float}
use Rattle.lane.specs.declared.Settings.{Settings}
use Rattle.lane.specs.declared.Insn.{Insn}
use Rattle.lane.specs.Words.{pick, bit, flag_of, Lane, Stores, constant_slot, lane_config, lane_flag, use_flag, template, sequence, misc, enabled, is_register, register_stores}
use Rattle.lane.specs.Load.{loads, captures, load_with, load, loadi}
use Rattle.lane.specs.Swap.{acts, swaps, below, index_of, plain_swap, index_swap, swap_with, swap}
use Rattle.lane.specs.Lut.{lut_word, lut_answer, lut_stores, lut_with, lut}
use Rattle.lane.specs.Config.{passed_over, high_store, config_store, config_with, config}
use Rattle.lane.specs.Compute.{computes, word_only, word_and_flag, valued_with, valued, iadd_with, iadd, lz_with, lz, exexp_with, exexp}
use Rattle.lane.specs.Rule.{lanewise, stores_of}
use Rattle.lane.proofs.Cases.{pick_le}
use Rattle.lane.proofs.Tables.{and_left, and_right}

-- ---- lists of stores

pub flag_small : (t : Bool) → flag_of t ≤ 1
unfolding flag_of
flag_small t = pick_le t 1 0 1 (omega arith) (omega arith)

pub flag_true : flag_of true ≡ 1
unfolding flag_of pick
flag_true = refl

pub flag_false : flag_of false ≡ 0
unfolding flag_of pick
flag_false = refl

-- one store, to a register or not
one_register : (r w : ℕ) → r < 12 → register_stores ((r, w) ∷ []) ≡ 1
unfolding register_stores flag_of pick
one_register r w h = simp (lt-ltb r 12 h)

one_other : (s w : ℕ) → 12 ≤ s → register_stores ((s, w) ∷ []) ≡ 0
unfolding register_stores flag_of pick
one_other s w h = simp (le-ltb s 12 h)

pub stores_append : (a b : Stores) → register_stores (a ++ b) ≡ register_stores a + register_stores b
unfolding register_stores
stores_append [] b = sym (zero-add (register_stores b))
stores_append (s ∷ a) b =
    ap (λ (n : ℕ). flag_of (is_register s.0) + n) (stores_append a b)
    ∙ sym (add_assoc (flag_of (is_register s.0)) (register_stores a) (register_stores b))

-- stores under a test
stores_when : (t : Bool) (a : Stores) (n : ℕ) → (t ≡ true → register_stores a ≡ n) → register_stores (pick t a []) ≡ pick t n 0
unfolding register_stores pick
stores_when true a n h = h refl
stores_when false a n h = refl

stores_test : (t : Bool) (a b : Stores) (m n : ℕ) → (t ≡ true → register_stores a ≡ m) → (t ≡ false → register_stores b ≡ n)
    → register_stores (pick t a b) ≡ pick t m n
unfolding pick
stores_test true a b m n h k = h refl
stores_test false a b m n h k = k refl

-- one test, the same count or the same bound both ways
either : (t : Bool) (a b : Stores) (n : ℕ) → register_stores a ≡ n → register_stores b ≡ n → register_stores (pick t a b) ≡ n
unfolding pick
either true a b n h k = h
either false a b n h k = k

few : (t : Bool) (a b : Stores) → register_stores a ≤ 4 → register_stores b ≤ 4 → register_stores (pick t a b) ≤ 4
unfolding pick
few true a b h k = h
few false a b h k = k

pub none_count : register_stores [] ≡ 0
unfolding register_stores
none_count = refl

-- one store to a register under a test
pub under_count : (t : Bool) (r w : ℕ) → r < 12 → register_stores (pick t ((r, w) ∷ []) []) ≡ flag_of t
unfolding flag_of
under_count t r w h = stores_when t ((r, w) ∷ []) 1 (λ e. one_register r w h)

under : (vd n : ℕ) (b : Bool) → (ltb vd n && b) ≡ true → vd < n
under vd n b e = ltb-true vd n (and_left (ltb vd n) b e)

-- ---- the operations that store once in each lane that is enabled, for vd below 8

word_count : (vd w : ℕ) (own : Lane) → register_stores (word_only vd w own) ≡ flag_of (computes vd own)
unfolding word_only flag_of
word_count vd w own =
    stores_when (computes vd own) _ 1 (λ e. let h : vd < 8 = under vd 8 (enabled own) e in one_register vd w (omega arith))

-- a flag is no register
flagged_count : (vd w f : ℕ) (own : Lane) → register_stores (word_and_flag vd w f own) ≡ flag_of (computes vd own)
unfolding word_and_flag flag_of
flagged_count vd w f own =
    stores_when (computes vd own) _ 1
    (λ e.
    let h : vd < 8 = under vd 8 (enabled own) e in
    stores_append ((vd, w) ∷ []) ((lane_flag, f) ∷ [])
    ∙ ap (λ (n : ℕ). n + register_stores ((lane_flag, f) ∷ [])) (one_register vd w (omega arith))
    ∙ ap (λ (n : ℕ). 1 + n) (one_other lane_flag f (omega arith)))

pub loadi_count : (i : Insn) (own : Lane) → register_stores (loadi i own) ≡ flag_of (computes i.vd own)
unfolding loadi flag_of
loadi_count i own =
    stores_when (computes i.vd own) _ 1 (λ e. let h : i.vd < 8 = under i.vd 8 (enabled own) e in one_register i.vd _ (omega arith))

pub valued_count : (op : ℕ) (i : Insn) (L : ℕ) (own : Lane) → register_stores (valued op i L own) ≡ flag_of (computes i.vd own)
unfolding valued valued_with
valued_count op i L own = word_count i.vd _ own

pub iadd_count : (i : Insn) (L : ℕ) (own : Lane) → register_stores (iadd i L own) ≡ flag_of (computes i.vd own)
unfolding iadd iadd_with
iadd_count i L own = flagged_count i.vd _ _ own

pub lz_count_lem : (i : Insn) (L : ℕ) (own : Lane) → register_stores (lz i L own) ≡ flag_of (computes i.vd own)
unfolding lz lz_with
lz_count_lem i L own = flagged_count i.vd _ _ own

pub exexp_count : (i : Insn) (L : ℕ) (own : Lane) → register_stores (exexp i L own) ≡ flag_of (computes i.vd own)
unfolding exexp exexp_with
exexp_count i L own = flagged_count i.vd _ _ own

-- ---- LOAD: the word, and the captured place

pub load_count : (vd m cell place : ℕ) (own : Lane)
    → register_stores (load_with vd m cell place own) ≡ pick (loads vd own) (1 + flag_of (captures vd (own lane_config))) 0
unfolding load_with flag_of
load_count vd m cell place own =
    stores_when (loads vd own) _ _
    (λ e.
    let h : vd < 8 = under vd 8 _ e in
    stores_append ((vd, _) ∷ []) (pick (captures vd (own lane_config)) ((vd + 4, place) ∷ []) [])
    ∙ ap (λ (n : ℕ). n + register_stores (pick (captures vd (own lane_config)) ((vd + 4, place) ∷ []) [])) (one_register vd _ (omega arith))
    ∙ ap (λ (n : ℕ). 1 + n)
    (stores_when (captures vd (own lane_config)) _ 1 (λ k. let l : vd < 4 = under vd 4 _ k in one_register (vd + 4) place (omega arith))))

-- ---- LUT: one where there is an answer

answer_count : (m r3 r : ℕ) (x : Float) (t : Bool) → (t ≡ true → r < 8) → register_stores (lut_stores m r3 (pick t (Some (x, r)) None)) ≡ flag_of t
unfolding register_stores pick flag_of
answer_count m r3 r x true h = one_register r (lut_word m r3 x) (let l : r < 8 = h refl in omega arith)
answer_count m r3 r x false h = refl

pub lut_count : (m r3 r : ℕ) (acting : Bool) (x : Float) → register_stores (lut_stores m r3 (lut_answer acting r x)) ≡ flag_of (acting && ltb r 8)
unfolding lut_answer
lut_count m r3 r acting x = answer_count m r3 r x (acting && ltb r 8) (λ e. ltb-true r 8 (and_right acting (ltb r 8) e))

-- ---- SWAP: what it stores to vc and vd, and the exchange, which counts two

below_count : (n r w : ℕ) → n ≤ 12 → register_stores (below n r w) ≡ flag_of (ltb r n)
unfolding below flag_of
below_count n r w h =
    stores_when (ltb r n) _ 1 (λ e. let l : r < n = ltb-true r n e in one_register r w (omega arith))

plain_count : (vc vd c d : ℕ) → register_stores (plain_swap vc vd c d) ≡ flag_of (ltb vc 8) + flag_of (ltb vd 8)
unfolding plain_swap
plain_count vc vd c d =
    stores_append (below 8 vc d) (below 8 vd c)
    ∙ ap (λ (n : ℕ). n + register_stores (below 8 vd c)) (below_count 8 vc d (omega arith))
    ∙ ap (λ (n : ℕ). flag_of (ltb vc 8) + n) (below_count 8 vd c (omega arith))

index_count : (vc vd c d x y : ℕ) → register_stores (index_swap vc vd c d x y) ≡ flag_of (ltb vc 4) + (flag_of (ltb vd 4) + 2)
unfolding index_swap
index_count vc vd c d x y =
    stores_append (below 4 vc d) _
    ∙ ap (λ (n : ℕ). n + register_stores (below 4 vd c ++ ((index_of vc, y) ∷ (index_of vd, x) ∷ []))) (below_count 4 vc d (omega arith))
    ∙ ap (λ (n : ℕ). flag_of (ltb vc 4) + n)
    (stores_append (below 4 vd c) ((index_of vc, y) ∷ (index_of vd, x) ∷ [])
    ∙ ap (λ (n : ℕ). n + register_stores ((index_of vc, y) ∷ (index_of vd, x) ∷ [])) (below_count 4 vd c (omega arith))
    ∙ ap (λ (n : ℕ). flag_of (ltb vd 4) + n)
    (stores_append ((index_of vc, y) ∷ []) ((index_of vd, x) ∷ [])
    ∙ ap (λ (n : ℕ). n + register_stores ((index_of vd, x) ∷ [])) (one_register (index_of vc) y (omega arith))
    ∙ ap (λ (n : ℕ). 1 + n) (one_register (index_of vd) x (omega arith))))

pub swap_count_lem : (minimum : Bool) (i : Insn) (c d : ℕ) (own : Lane)
    → register_stores (swap_with minimum i c d own)
    ≡ pick (acts i.vd own && swaps (eqb i.md 0) minimum (bit (own lane_config) 8) c d)
    (pick (bit (own lane_config) 2) (flag_of (ltb i.vc 4) + (flag_of (ltb i.vd 4) + 2)) (flag_of (ltb i.vc 8) + flag_of (ltb i.vd 8)))
    0
unfolding swap_with
swap_count_lem minimum i c d own =
    stores_when _ _ _
    (λ e.
    stores_test (bit (own lane_config) 2) _ _ _ _
    (λ k. index_count i.vc i.vd c d (own (index_of i.vc)) (own (index_of i.vd))) (λ k. plain_count i.vc i.vd c d))

-- ---- CONFIG: one for registers 11 to 14

high_count : (edition : ℕ) (i : Insn) (first : ℕ) (own : Lane)
    → register_stores (high_store edition i first own) ≡ pick (eqb i.vd 8) 0 (pick (ltb i.vd 11) 0 (pick (ltb i.vd 15) 1 0))
unfolding high_store
high_count edition i first own =
    stores_test (eqb i.vd 8) _ _ _ _ (λ e. one_other misc _ (omega arith))
    (λ e.
    stores_test (ltb i.vd 11) [] _ _ _ (λ k. none_count)
    (λ k.
    stores_test (ltb i.vd 15) _ _ _ _
    (λ l. let h : i.vd < 15 = ltb-true i.vd 15 l in one_register (constant_slot i.vd) _ (omega arith)) (λ l. one_other lane_config _ (omega arith))))

config_slots : (vd : ℕ)
    → pick (ltb vd 4) 0 (pick (ltb vd 8) 0 (pick (eqb vd 8) 0 (pick (ltb vd 11) 0 (pick (ltb vd 15) 1 0)))) ≡ flag_of (ltb 10 vd && ltb vd 15)
unfolding flag_of pick
config_slots vd = elim (dec_le 11 vd) [ yes h ↦ past h | no h ↦ short (lt_of_not-le h) ]
  where
    past : 11 ≤ vd → pick (ltb vd 4) 0 (pick (ltb vd 8) 0 (pick (eqb vd 8) 0 (pick (ltb vd 11) 0 (pick (ltb vd 15) 1 0)))) ≡ flag_of (ltb 10 vd && ltb vd 15)
    past h =
        simp (le-ltb vd 4 (omega arith), le-ltb vd 8 (omega arith), ne_eqb vd 8 (λ e. omega arith), le-ltb vd 11 h, lt-ltb 10 vd (omega arith))

    nothing : (a b c : Bool) → pick {X = ℕ} a 0 (pick b 0 (pick c 0 0)) ≡ 0
    nothing true b c = refl
    nothing false true c = refl
    nothing false false true = refl
    nothing false false false = refl

    short : vd < 11 → pick (ltb vd 4) 0 (pick (ltb vd 8) 0 (pick (eqb vd 8) 0 (pick (ltb vd 11) 0 (pick (ltb vd 15) 1 0)))) ≡ flag_of (ltb 10 vd && ltb vd 15)
    short h = simp (lt-ltb vd 11 h, le-ltb 10 vd (omega arith)) (nothing (ltb vd 4) (ltb vd 8) (eqb vd 8))

pub config_count : (edition : ℕ) (i : Insn) (L uses flag first : ℕ) (own : Lane)
    → register_stores (config_with edition i L uses flag first own)
    ≡ pick (passed_over i.md i.imm L uses flag) 0 (flag_of (ltb 10 i.vd && ltb i.vd 15))
unfolding config_with config_store
config_count edition i L uses flag first own =
    stores_test (passed_over i.md i.imm L uses flag) [] _ _ _ (λ e. none_count)
    (λ e.
    stores_test (ltb i.vd 4) _ _ _ _ (λ k. one_other (template i.vd) first (omega arith))
    (λ k. stores_test (ltb i.vd 8) _ _ _ _ (λ l. one_other (sequence (i.vd - 4)) _ (omega arith)) (λ l. high_count edition i first own))
    ∙ config_slots i.vd)

-- ---- all operations

-- every operation but LOAD, LUT, SWAP, CONFIG, NOP and STORE stores once in each lane that is enabled, for vd below 8
module _ (op : ℕ) (s : Settings) (a : ℕ) (i : Insn) (L : ℕ) (head : Lane) (even odd : ℕ) (own : Lane) where
  pub once_count : eqb op 1 ≡ false → eqb op 3 ≡ false → eqb op 4 ≡ false → eqb op 5 ≡ false → (eqb op 15 || eqb op 16) ≡ false
      → register_stores (stores_of op s a i L head even odd own) ≡ flag_of (computes i.vd own)
  unfolding stores_of lanewise pick
  once_count e1 e3 e4 e5 e15 =
      rw (e5, e1, e3, e4, e15)
      (either (eqb op 2) _ _ _ (loadi_count i own)
      (either (eqb op 6) _ _ _ (iadd_count i L own)
      (either (eqb op 12) _ _ _ (lz_count_lem i L own) (either (eqb op 13) _ _ _ (exexp_count i L own) (valued_count op i L own)))))

  -- and no rule makes more than four such stores in a lane
  pub at_most_four : register_stores (stores_of op s a i L head even odd own) ≤ 4
  unfolding stores_of lanewise config load swap lut lut_with
  at_most_four =
      few (eqb op 5) _ _ (by _ _ (config_count s.edition i L (head use_flag) (head lane_flag) (head 0) own) (pick_le _ 0 _ 4 (omega arith) (up _)))
      (few (eqb op 1) _ _ (by _ _ (load_count i.vd _ _ _ own) (pick_le _ _ 0 4 (omega (arith, flag_small (captures i.vd (own lane_config)))) (omega arith)))
      (few (eqb op 2) _ _ (by _ _ (loadi_count i own) (up _))
      (few (eqb op 3) _ _ (by _ _ (lut_count i.md (own 3) _ _ _) (up _))
      (few (eqb op 4) _ _ (by _ _ (swap_count_lem _ i _ _ own) (pick_le _ _ 0 4 (pick_le _ _ _ 4 (index _ _) (plain _ _)) (omega arith)))
      (few (eqb op 6) _ _ (by _ _ (iadd_count i L own) (up _))
      (few (eqb op 12) _ _ (by _ _ (lz_count_lem i L own) (up _))
      (few (eqb op 13) _ _ (by _ _ (exexp_count i L own) (up _))
      (few (eqb op 15 || eqb op 16) [] _ (by _ _ none_count (omega arith)) (by _ _ (valued_count op i L own) (up _))))))))))
    where
      by : (st : Stores) (n : ℕ) → register_stores st ≡ n → n ≤ 4 → register_stores st ≤ 4
      by st n e h = omega arith

      up : (t : Bool) → flag_of t ≤ 4
      up t = omega (arith, flag_small t)

      index : (s t : Bool) → flag_of s + (flag_of t + 2) ≤ 4
      index s t = omega (arith, flag_small s, flag_small t)

      plain : (s t : Bool) → flag_of s + flag_of t ≤ 4
      plain s t = omega (arith, flag_small s, flag_small t)

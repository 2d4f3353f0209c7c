-- CONFIG: rows that are the same in each column, and the stores by rows, which are in each lane those of the rule. Assumes nothing.
use Rattle.std.proofs.Common.{◌≡◌, ℕ, ◌+◌, ◌*◌, ◌%◌, ◌<◌, ◌≤◌, Bool, true, false, not, ◌&&◌, ◌||◌, eqb, ltb, List, [], ◌∷◌, length, get_or, set, sym, refl, ap, ◌∙◌, mul-zero, mul-one, arith, le-ltb, lt-ltb, eq-eqb, ne_eqb, le-leb}
use native.Mathlib.Decide.{ℕ_discrete}
use borrow.Author.Tests.{lt-leb}
use Rattle.lane.specs.declared.Insn.{Insn}
use Rattle.lane.specs.Words.{pick, has, bit, flag_of, Lane, Stores, lane_flag, use_flag, register_stores}
use Rattle.lane.specs.Config.{passed_over, high_store, config_store, config_with, config}
use Rattle.lane.proofs.Cases.{pick_true, pick_false}
use Rattle.lane.proofs.Counted.{flag_true, flag_false, config_count, none_count}
use Rattle.runner.specs.Image.{lane_in}
use Rattle.runner.specs.PrivateRows.{row, full, storing}
use Rattle.runner.specs.PrivateRows.{columns}
use Rattle.runner.specs.PrivateConfig.{reached, reached_in, config_slot, config_value, written}
use Rattle.runner.specs.PrivateSteps.{counted, times}
use Rattle.runner.proofs.Lanes.{split, storing_same}
use Rattle.runner.proofs.Filled.{Spread, columns_more, spread_end, operand}
use Rattle.runner.proofs.Counts.{counted_same, counted_none}
use Rattle.runner.proofs.Tallied.{times_none}

-- ---- rows of columns

module _ (h : ℕ → ℕ) (n : ℕ) (words : List ℕ) where
  pub column_more : (v : ℕ) → n < 8 → Spread (λ p. h (p % 8)) 8 32 n words → v ≡ h n
      → Spread (λ p. h (p % 8)) 8 32 (n + 1) (set (set (set (set words n v) (8 + n) v) (16 + n) v) (24 + n) v)
  column_more v l s e =
      columns_more (λ p. h (p % 8)) n words v l s
      (at n (omega arith)) (at (8 + n) (omega arith)) (at (16 + n) (omega arith)) (at (24 + n) (omega arith))
    where
      at : (p : ℕ) → p % 8 ≡ n → v ≡ h (p % 8)
      at p q = e ∙ ap h (sym q)

  pub column_end : 8 ≤ n → Spread (λ p. h (p % 8)) 8 32 n words → words ≡ columns h
  unfolding columns row
  column_end l s = spread_end (λ p. h (p % 8)) 8 32 n words (λ p k. omega arith) s

pub column_at : (words : List ℕ) (h : ℕ → ℕ) → words ≡ columns h → (L : ℕ) → L < 32 → get_or words L 0 ≡ h (L % 8)
unfolding columns
column_at words h e L l = operand words (λ L. h (L % 8)) e L l

pub reached_at : (i : Insn) (image masks : List ℕ) → masks ≡ reached_in i image → (L : ℕ) → L < 32
    → get_or masks L 0 ≡ full (reached i (lane_in image (L % 8)) (L % 8))
unfolding reached_in
reached_at i image masks e L l = column_at masks (λ j. full (reached i (lane_in image j) j)) e L l

-- ---- one lane

config_store_lem : (edition : ℕ) (i : Insn) (first : ℕ) (own : Lane) → (i.vd ≡ 9 → ⊥) → (i.vd ≡ 10 → ⊥)
    → (config_slot i.vd, written i.vd i.md (config_value edition i first) (own (config_slot i.vd))) ∷ [] ≡ config_store edition i first own
unfolding config_slot written config_value config_store high_store pick
config_store_lem edition i first own n9 n10 =
    split i.vd 4
    (λ a.
    split i.vd 8
    (λ b. high a b (ℕ_discrete i.vd 8))
    (λ b. simp (le-ltb i.vd 4 a, lt-ltb i.vd 8 b, ne_eqb i.vd 8 (λ e. omega arith), lt-leb 11 i.vd (omega arith), lt-ltb i.vd 15 (omega arith))))
    (λ a. simp (lt-ltb i.vd 4 a, ne_eqb i.vd 8 (λ e. omega arith), lt-ltb i.vd 15 (omega arith)))
  where
    high : 4 ≤ i.vd → 8 ≤ i.vd → Dec (i.vd ≡ 8)
        → (config_slot i.vd, written i.vd i.md (config_value edition i first) (own (config_slot i.vd))) ∷ [] ≡ config_store edition i first own
    high a b (yes e) = simp (le-ltb i.vd 4 a, le-ltb i.vd 8 b, eq-eqb i.vd 8 e, lt-leb 11 i.vd (omega arith))
    high a b (no e) =
        let c : 11 ≤ i.vd = omega arith in
        split i.vd 15
        (λ d. simp (le-ltb i.vd 4 a, le-ltb i.vd 8 b, ne_eqb i.vd 8 e, le-leb 11 i.vd c, le-ltb i.vd 11 c, le-ltb i.vd 15 d))
        (λ d. simp (le-ltb i.vd 4 a, le-ltb i.vd 8 b, ne_eqb i.vd 8 e, le-leb 11 i.vd c, le-ltb i.vd 11 c, lt-ltb i.vd 15 d))

turned_round : (t : Bool) (a b : Stores) → a ≡ b → pick (not t) a [] ≡ pick t [] b
unfolding pick
turned_round true a b e = refl
turned_round false a b e = e

-- from the rows
pub config_lane : (edition : ℕ) (i : Insn) (L : ℕ) (head own : Lane) (slot value : ℕ) → (i.vd ≡ 9 → ⊥) → (i.vd ≡ 10 → ⊥)
    → slot ≡ config_slot i.vd → value ≡ config_value edition i (head 0)
    → pick (reached i head (L % 8)) ((slot, written i.vd i.md value (own slot)) ∷ []) [] ≡ config edition i L head own
unfolding reached config config_with
config_lane edition i L head own slot value n9 n10 s v =
    ap (λ (k : ℕ). pick (not ((has i.md 8 && not (bit i.imm (2 * k))) || (eqb (head use_flag) 1 && eqb (head lane_flag) 0))) ((slot, written i.vd i.md value (own slot)) ∷ []) []) (same L)
    ∙ turned_round (passed_over i.md i.imm L (head use_flag) (head lane_flag)) _ _ (rw (s, v) (config_store_lem edition i (head 0) own n9 n10))
  where
    same : (L : ℕ) → L % 8 % 8 ≡ L % 8
    same L = omega arith

same_none : (t : Bool) → pick {X = Stores} t [] [] ≡ []
unfolding pick
same_none true = refl
same_none false = refl

-- vd 9 and 10 store nothing
pub no_config : (edition : ℕ) (i : Insn) (L : ℕ) (head own : Lane) → 9 ≤ i.vd → i.vd ≤ 10 → config edition i L head own ≡ []
unfolding config config_with config_store high_store
no_config edition i L head own a b =
    ap (λ (x : Stores). pick (passed_over i.md i.imm L (head use_flag) (head lane_flag)) [] x)
    (pick_false (ltb i.vd 4) _ _ (le-ltb i.vd 4 (omega arith)) ∙ pick_false (ltb i.vd 8) _ _ (le-ltb i.vd 8 (omega arith))
    ∙ pick_false (eqb i.vd 8) _ _ (ne_eqb i.vd 8 (λ e. omega arith)) ∙ pick_true (ltb i.vd 11) [] _ (lt-ltb i.vd 11 (omega arith)))
    ∙ same_none _

-- over all lanes
pub config_lanes : (image x : List ℕ) (a b : ℕ → Stores) → x ≡ storing image a → ((L : ℕ) → L < 32 → a L ≡ b L) → x ≡ storing image b
config_lanes image x a b e h = e ∙ storing_same image a b h

-- the stores that are counted are those of the rule: one in each lane that is reached, for registers 11 to 14
pub config_counted : (edition : ℕ) (i : Insn) (image before counts : List ℕ)
    → counts ≡ counted before (times (flag_of (ltb 10 i.vd && ltb i.vd 15)) (λ L. reached i (lane_in image (L % 8)) (L % 8)))
    → counts ≡ counted before (λ L. register_stores (config edition i L (lane_in image (L % 8)) (lane_in image L)))
unfolding reached config
config_counted edition i image before counts h =
    h
    ∙ counted_same before _ _
    (λ L l.
    ap (λ (k : ℕ). flag_of (ltb 10 i.vd && ltb i.vd 15) * flag_of (not ((has i.md 8 && not (bit i.imm (2 * k))) || (eqb (lane_in image (L % 8) use_flag) 1 && eqb (lane_in image (L % 8) lane_flag) 0)))) (same L)
    ∙ turned (passed_over i.md i.imm L (lane_in image (L % 8) use_flag) (lane_in image (L % 8) lane_flag)) (flag_of (ltb 10 i.vd && ltb i.vd 15))
    ∙ sym (config_count edition i L (lane_in image (L % 8) use_flag) (lane_in image (L % 8) lane_flag) (lane_in image (L % 8) 0) (lane_in image L)))
  where
    same : (L : ℕ) → L % 8 % 8 ≡ L % 8
    same L = omega arith

    turned : (t : Bool) (n : ℕ) → n * flag_of (not t) ≡ pick t 0 n
    turned true n = ap (λ (k : ℕ). n * k) flag_false ∙ mul-zero n ∙ sym (pick_true true 0 n refl)
    turned false n = ap (λ (k : ℕ). n * k) flag_true ∙ mul-one n ∙ sym (pick_false false 0 n refl)

-- and none for vd 9 and 10
pub no_counts_lem : (edition : ℕ) (i : Insn) (image stores : List ℕ) → length stores ≡ 8 → 9 ≤ i.vd → i.vd ≤ 10
    → stores ≡ counted stores (λ L. register_stores (config edition i L (lane_in image (L % 8)) (lane_in image L)))
no_counts_lem edition i image stores e a b =
    counted_none stores _ e (λ L l. ap register_stores (no_config edition i L (lane_in image (L % 8)) (lane_in image L) a b) ∙ none_count)

-- whether vd is one of them
pub is_constant : (vd : ℕ) (stores counts : List ℕ) (e : ℕ → Bool) → (ltb 10 vd && ltb vd 15) ≡ true → counts ≡ counted stores (times 1 e)
    → counts ≡ counted stores (times (flag_of (ltb 10 vd && ltb vd 15)) e)
is_constant vd stores counts e h p = p ∙ ap (λ (n : ℕ). counted stores (times n e)) (sym (ap flag_of h ∙ flag_true))

pub not_constant : (vd : ℕ) (stores : List ℕ) (e : ℕ → Bool) → (ltb 10 vd && ltb vd 15) ≡ false → length stores ≡ 8
    → stores ≡ counted stores (times (flag_of (ltb 10 vd && ltb vd 15)) e)
not_constant vd stores e h l = times_none stores e l ∙ ap (λ (n : ℕ). counted stores (times n e)) (sym (ap flag_of h ∙ flag_false))

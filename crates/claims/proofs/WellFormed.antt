-- A well formed lane stays well formed, whatever the instruction. Assumes nothing.
use mathlib.Core.Path.{◌≡◌, refl, sym, ap, ◌∙◌, subst}
use Prim.Native.Nat.{ℕ, ◌+◌, ◌-◌, ◌%◌, ◌^◌, ◌<◌, ◌≤◌}
use native.Mathlib.Nat.{lt_of_lt_of_le}
use native.Mathlib.Decide.{ℕ_discrete}
use native.Mathlib.Omega.{arith}
use mathlib.Core.Bool.{Bool, true, false, ◌&&◌, ◌||◌}
use mathlib.Core.List.{[], ◌∷◌, ◌++◌}
use lib.Bits.{and_lt, or_lt, xor_lt}
use lib.Ieee.{Float}
use Rattle.std.proofs.Common.{Some, None}
use lib.Dec.{ltb, eqb}
use borrow.Author.Tests.{ltb-true, ltb-false, lt-ltb}
use Rattle.lane.specs.declared.Settings.{Settings}
use Rattle.lane.specs.declared.Insn.{Insn}
use Rattle.lane.specs.Words.{pick, has, bit, flag_of, Lane, Stores, lane_config, lane_flag, use_flag, misc, enabled, upd, after}
use Rattle.lane.specs.Load.{load_with, load, loadi, loads, captures}
use Rattle.lane.specs.Swap.{acts, below, plain_swap, index_swap, index_of, swap_with, swap}
use Rattle.lane.specs.Lut.{lut_answer, lut_stores, lut_with, lut, lut_register}
use Rattle.lane.specs.Config.{combined, value_of, lane_config_after, high_store, config_store, config_with, config, passed_over}
use Rattle.lane.specs.Compute.{inverted, flag_after, computes, word_only, word_and_flag, valued_with, valued, iadd_with, iadd, lz_with, lz, exexp_with, exexp}
use Rattle.lane.specs.Rule.{lanewise, stores_of}
use Rattle.lane.specs.Refusals.{well_formed}
use Rattle.lane.proofs.Tables.{and_left, and_right}
use Rattle.lane.proofs.Cases.{pick_lt}
use Rattle.lane.proofs.Stores.{upd_same, upd_other}

-- "LaneConfig below 2^18, Misc below 2^12, flags 0 or 1", as facts
pub record Sound (own : Lane) : Type 0 where
  pub config : own 12 < 2 ^ 18
  pub flag : own 13 < 2
  pub uses : own 14 < 2
  pub misc : own 23 < 2 ^ 12

-- a store that such a lane may take
pub record Fit (s v : ℕ) : Type 0 where
  pub config : s ≡ 12 → v < 2 ^ 18
  pub flag : s ≡ 13 → v < 2
  pub uses : s ≡ 14 → v < 2
  pub misc : s ≡ 23 → v < 2 ^ 12

abbrev pub AllFit : Stores → Type 0
AllFit [] = Unit {0}
AllFit (s ∷ st) = Fit s.0 s.1 × AllFit st

-- ---- a lane takes fitting stores

upd_under : (f : Lane) (s v t n : ℕ) → f t < n → (s ≡ t → v < n) → upd f s v t < n
upd_under f s v t n h k = go (ℕ_discrete t s)
  where
    go : Dec (t ≡ s) → upd f s v t < n
    go (yes e) = subst (λ (x : ℕ). x < n) (sym (ap (λ (y : ℕ). upd f s v y) e ∙ upd_same f s v)) (k (sym e))
    go (no e) = subst (λ (x : ℕ). x < n) (sym (upd_other f s v t e)) h

takes_one : (f : Lane) (s v : ℕ) → Sound f → Fit s v → Sound (upd f s v)
takes_one f s v h k =
    record {
      config = upd_under f s v 12 (2 ^ 18) h.config k.config;
      flag = upd_under f s v 13 2 h.flag k.flag;
      uses = upd_under f s v 14 2 h.uses k.uses;
      misc = upd_under f s v 23 (2 ^ 12) h.misc k.misc;
    }

pub takes_all : (st : Stores) (f : Lane) → Sound f → AllFit st → Sound (after st f)
unfolding after
takes_all [] f h k = h
takes_all (s ∷ st) f h k = takes_all st (upd f s.0 s.1) (takes_one f s.0 s.1 h k.0) k.1

-- ---- what fits

-- any word, at a slot that is none of the four
pub plain : (s v : ℕ) → (s ≡ 12 → ⊥) → (s ≡ 13 → ⊥) → (s ≡ 14 → ⊥) → (s ≡ 23 → ⊥) → Fit s v
plain s v a b c d =
    record { config = λ e. absurd (a e); flag = λ e. absurd (b e); uses = λ e. absurd (c e); misc = λ e. absurd (d e) }

fit_register : (r v : ℕ) → r < 8 → Fit r v
fit_register r v h = plain r v (λ e. omega arith) (λ e. omega arith) (λ e. omega arith) (λ e. omega arith)

fit_flag : (v : ℕ) → v < 2 → Fit 13 v
fit_flag v h = record { config = λ e. omega arith; flag = λ e. h; uses = λ e. omega arith; misc = λ e. omega arith }

fit_test : (t : Bool) (a b : Stores) → (t ≡ true → AllFit a) → (t ≡ false → AllFit b) → AllFit (pick t a b)
unfolding pick
fit_test true a b h k = h refl
fit_test false a b h k = k refl

fit_when : (t : Bool) (a : Stores) → (t ≡ true → AllFit a) → AllFit (pick t a [])
fit_when t a h = fit_test t a [] h (λ e. tt)

fit_append : (a b : Stores) → AllFit a → AllFit b → AllFit (a ++ b)
fit_append [] b h k = k
fit_append (s ∷ a) b h k = (h.0, fit_append a b h.1 k)

fit_below : (n r w : ℕ) → n ≤ 8 → AllFit (below n r w)
unfolding below
fit_below n r w h = fit_when (ltb r n) ((r, w) ∷ []) (λ e. (fit_register r w (lt_of_lt_of_le (ltb-true r n e) h), tt))

-- ---- each operation's stores

vd_below : (vd n : ℕ) (b : Bool) → (ltb vd n && b) ≡ true → vd < n
vd_below vd n b e = ltb-true vd n (and_left (ltb vd n) b e)

fit_load_with : (vd m cell place : ℕ) (own : Lane) → AllFit (load_with vd m cell place own)
unfolding load_with
fit_load_with vd m cell place own =
    fit_when (loads vd own) _
    (λ e. (
      fit_register vd _ (vd_below vd 8 _ e),
      fit_when (captures vd (own lane_config)) _
          (λ k. (fit_register (vd + 4) place (let h : vd < 4 = vd_below vd 4 _ k in omega arith), tt)),
    ))

fit_load : (srcb a : ℕ) (i : Insn) (L : ℕ) (exchanged : Bool) (even odd : ℕ) (own : Lane) → AllFit (load srcb a i L exchanged even odd own)
unfolding load
fit_load srcb a i L exchanged even odd own = fit_load_with i.vd _ _ _ own

fit_loadi : (i : Insn) (own : Lane) → AllFit (loadi i own)
unfolding loadi
fit_loadi i own = fit_when (ltb i.vd 8 && enabled own) _ (λ e. (fit_register i.vd _ (vd_below i.vd 8 _ e), tt))

fit_answer : (m r3 r : ℕ) (x : Float) (t : Bool) → (t ≡ true → r < 8) → AllFit (lut_stores m r3 (pick t (Some (x, r)) None))
unfolding pick
fit_answer m r3 r x true h = (fit_register r _ (h refl), tt)
fit_answer m r3 r x false h = tt

fit_lut : (i : Insn) (own : Lane) → AllFit (lut i own)
unfolding lut lut_with lut_answer
fit_lut i own =
    fit_answer i.md (own 3) (lut_register i.md i.vd (own 7)) _ (acts i.vd own && ltb (lut_register i.md i.vd (own 7)) 8)
    (λ e. ltb-true _ 8 (and_right (acts i.vd own) (ltb (lut_register i.md i.vd (own 7)) 8) e))

fit_swap : (i : Insn) (L : ℕ) (own : Lane) → AllFit (swap i L own)
unfolding swap swap_with plain_swap index_swap
fit_swap i L own =
    fit_when _ _
    (λ e.
    fit_test (bit (own lane_config) 2) _ _
    (λ k.
    fit_append (below 4 i.vc _) _ (fit_below 4 i.vc _ (omega arith))
    (fit_append (below 4 i.vd _) _ (fit_below 4 i.vd _ (omega arith))
    (fit_register (index_of i.vc) _ (omega arith), (fit_register (index_of i.vd) _ (omega arith), tt))))
    (λ k.
    fit_append (below 8 i.vc _) _ (fit_below 8 i.vc _ (omega arith)) (fit_below 8 i.vd _ (omega arith))))

combined_lt : (k m old v : ℕ) → old < 2 ^ k → v < 2 ^ k → combined m old v < 2 ^ k
unfolding combined
combined_lt k m old v h g =
    pick_lt (has m 2) _ _ (2 ^ k) (pick_lt (has m 4) _ _ (2 ^ k) (xor_lt k old v h g) (or_lt k old v h g))
    (pick_lt (has m 4) _ _ (2 ^ k) (and_lt k old v h g) g)

config_lt : (m old v : ℕ) → old < 2 ^ 18 → lane_config_after m old v < 2 ^ 18
unfolding lane_config_after
config_lt m old v h =
    pick_lt (has m 1) _ _ (2 ^ 18) (omega arith) (combined_lt 18 m old (v % 2 ^ 18) h (omega arith))

fit_high : (edition : ℕ) (i : Insn) (first : ℕ) (own : Lane) → Sound own → 8 ≤ i.vd → AllFit (high_store edition i first own)
unfolding high_store
fit_high edition i first own h k =
    fit_test (eqb i.vd 8) _ _
    (λ e. (
      record {
        config = λ q. omega arith;
        flag = λ q. omega arith;
        uses = λ q. omega arith;
        misc = λ q. combined_lt 12 i.md (own misc) (value_of i.md i.imm first % 2 ^ 12) h.misc (omega arith);
      },
      tt,
    ))
    (λ e.
    fit_test (ltb i.vd 11) [] _ (λ q. tt)
    (λ q.
    fit_test (ltb i.vd 15) _ _
    (λ r.
    let lo : 11 ≤ i.vd = ltb-false i.vd 11 q in
    let hi : i.vd < 15 = ltb-true i.vd 15 r in
    (plain (i.vd - 3) _ (λ z. omega arith) (λ z. omega arith) (λ z. omega arith) (λ z. omega arith), tt))
    (λ r. (
      record {
        config = λ z. config_lt i.md (own lane_config) (value_of i.md i.imm first) h.config;
        flag = λ z. omega arith;
        uses = λ z. omega arith;
        misc = λ z. omega arith;
      },
      tt,
    ))))

fit_config : (edition : ℕ) (i : Insn) (L : ℕ) (head own : Lane) → Sound own → AllFit (config edition i L head own)
unfolding config config_with config_store
fit_config edition i L head own h =
    fit_test (passed_over i.md i.imm L (head use_flag) (head lane_flag)) [] _ (λ e. tt)
    (λ e.
    fit_test (ltb i.vd 4) _ _
    (λ q.
    let hi : i.vd < 4 = ltb-true i.vd 4 q in
    (plain (15 + i.vd) _ (λ z. omega arith) (λ z. omega arith) (λ z. omega arith) (λ z. omega arith), tt))
    (λ q.
    fit_test (ltb i.vd 8) _ _
    (λ r.
    let hi : i.vd < 8 = ltb-true i.vd 8 r in
    (plain (19 + (i.vd - 4)) _ (λ z. omega arith) (λ z. omega arith) (λ z. omega arith) (λ z. omega arith), tt))
    (λ r. fit_high edition i (head 0) own h (ltb-false i.vd 8 r))))

flag_lt : (sets truth : Bool) (m old : ℕ) → old < 2 → flag_after sets truth m old < 2
unfolding flag_after inverted flag_of
flag_lt sets truth m old h =
    pick_lt (has m 8) _ _ 2 (pick_lt _ 1 0 2 (omega arith) (omega arith))
    (pick_lt sets _ old 2 (pick_lt truth 1 0 2 (omega arith) (omega arith)) h)

fit_word : (vd w : ℕ) (own : Lane) → AllFit (word_only vd w own)
unfolding word_only
fit_word vd w own = fit_when (computes vd own) _ (λ e. (fit_register vd w (vd_below vd 8 _ e), tt))

fit_word_and_flag : (vd w f : ℕ) (own : Lane) → f < 2 → AllFit (word_and_flag vd w f own)
unfolding word_and_flag
fit_word_and_flag vd w f own h =
    fit_when (computes vd own) _ (λ e. (fit_register vd w (vd_below vd 8 _ e), (fit_flag f h, tt)))

fit_valued : (op : ℕ) (i : Insn) (L : ℕ) (own : Lane) → AllFit (valued op i L own)
unfolding valued valued_with
fit_valued op i L own = fit_word i.vd _ own

fit_iadd : (i : Insn) (L : ℕ) (own : Lane) → Sound own → AllFit (iadd i L own)
unfolding iadd iadd_with
fit_iadd i L own h = fit_word_and_flag i.vd _ _ own (flag_lt _ _ i.md (own lane_flag) h.flag)

fit_lz : (i : Insn) (L : ℕ) (own : Lane) → Sound own → AllFit (lz i L own)
unfolding lz lz_with
fit_lz i L own h = fit_word_and_flag i.vd _ _ own (flag_lt _ _ i.md (own lane_flag) h.flag)

fit_exexp : (i : Insn) (L : ℕ) (own : Lane) → Sound own → AllFit (exexp i L own)
unfolding exexp exexp_with
fit_exexp i L own h = fit_word_and_flag i.vd _ _ own (flag_lt _ _ i.md (own lane_flag) h.flag)

-- ---- and of any instruction

fit_lanewise : (op srcb a : ℕ) (i : Insn) (L : ℕ) (exchanged : Bool) (even odd : ℕ) (own : Lane) → Sound own
    → AllFit (lanewise op srcb a i L exchanged even odd own)
unfolding lanewise
fit_lanewise op srcb a i L exchanged even odd own h =
    fit_test (eqb op 1) _ _ (λ e. fit_load srcb a i L exchanged even odd own)
    (λ e.
    fit_test (eqb op 2) _ _ (λ e. fit_loadi i own)
    (λ e.
    fit_test (eqb op 3) _ _ (λ e. fit_lut i own)
    (λ e.
    fit_test (eqb op 4) _ _ (λ e. fit_swap i L own)
    (λ e.
    fit_test (eqb op 6) _ _ (λ e. fit_iadd i L own h)
    (λ e.
    fit_test (eqb op 12) _ _ (λ e. fit_lz i L own h)
    (λ e.
    fit_test (eqb op 13) _ _ (λ e. fit_exexp i L own h)
    (λ e. fit_test (eqb op 15 || eqb op 16) [] _ (λ e. tt) (λ e. fit_valued op i L own))))))))

pub fit_stores : (op : ℕ) (s : Settings) (a : ℕ) (i : Insn) (L : ℕ) (head : Lane) (even odd : ℕ) (own : Lane) → Sound own
    → AllFit (stores_of op s a i L head even odd own)
unfolding stores_of
fit_stores op s a i L head even odd own h =
    fit_test (eqb op 5) _ _ (λ e. fit_config s.edition i L head own h)
    (λ e. fit_lanewise op s.srcb a i L (bit (head lane_config) 5) even odd own h)

pub stays_sound : (op : ℕ) (s : Settings) (a : ℕ) (i : Insn) (L : ℕ) (head : Lane) (even odd : ℕ) (own : Lane) → Sound own
    → Sound (after (stores_of op s a i L head even odd own) own)
stays_sound op s a i L head even odd own h =
    takes_all (stores_of op s a i L head even odd own) own h (fit_stores op s a i L head even odd own h)

-- ---- the same of the test that the refusals use

pub sound_of : (own : Lane) → well_formed own ≡ true → Sound own
sound_of own h =
    let a = ltb (own lane_config) (2 ^ 18) in
    let b = ltb (own misc) (2 ^ 12) in
    let c = ltb (own lane_flag) 2 in
    let d = ltb (own use_flag) 2 in
    let abc = and_left (a && b && c) d h in
    let ab = and_left (a && b) c abc in
    record {
      config = ltb-true (own lane_config) (2 ^ 18) (and_left a b ab);
      flag = ltb-true (own lane_flag) 2 (and_right (a && b) c abc);
      uses = ltb-true (own use_flag) 2 (and_right (a && b && c) d h);
      misc = ltb-true (own misc) (2 ^ 12) (and_right a b ab);
    }

pub well_formed_of : (own : Lane) → Sound own → well_formed own ≡ true
well_formed_of own h =
    simp (
      lt-ltb (own lane_config) (2 ^ 18) h.config,
      lt-ltb (own misc) (2 ^ 12) h.misc,
      lt-ltb (own lane_flag) 2 h.flag,
      lt-ltb (own use_flag) 2 h.uses,
    )

-- a well formed lane is well formed after any instruction
pub stays_well_formed : (op : ℕ) (s : Settings) (a : ℕ) (i : Insn) (L : ℕ) (head : Lane) (even odd : ℕ) (own : Lane)
    → well_formed own ≡ true → well_formed (after (stores_of op s a i L head even odd own) own) ≡ true
stays_well_formed op s a i L head even odd own h =
    well_formed_of (after (stores_of op s a i L head even odd own) own) (stays_sound op s a i L head even odd own (sound_of own h))

-- Only IADD, LZ and EXEXP store to LaneFlag, and no operation to UseFlag: so the others leave the row of enabled lanes. Assumes nothing.
use Rattle.std.proofs.Common.{◌≡◌, ℕ, ◌+◌, ◌-◌, ◌<◌, ◌≤◌, Bool, true, false, ◌&&◌, eqb, ltb, [], ◌∷◌, ◌++◌, refl, lt_of_lt_of_le, arith, ltb-true, Some, None}
use lib.Ieee.{Float}
use Rattle.lane.specs.declared.Insn.{Insn}
use Rattle.lane.specs.Words.{pick, bit, Lane, Stores, lane_config, lane_flag, use_flag, enabled}
use Rattle.lane.specs.Load.{load_with, load, loadi, loads, captures}
use Rattle.lane.specs.Swap.{acts, below, plain_swap, index_swap, index_of, swap_with, swap}
use Rattle.lane.specs.Lut.{lut_answer, lut_stores, lut_with, lut, lut_register}
use Rattle.lane.specs.Config.{high_store, config_store, config_with, config, passed_over}
use Rattle.lane.specs.Compute.{computes, word_only, valued_with, valued}
use Rattle.lane.proofs.Tables.{and_left, and_right}
use Rattle.runner.proofs.Enabled.{Quiet}

quiet_register : (r w : ℕ) → r < 8 → Quiet ((r, w) ∷ [])
quiet_register r w h = ((λ e. omega arith, λ e. omega arith), tt)

quiet_test : (t : Bool) (a b : Stores) → (t ≡ true → Quiet a) → (t ≡ false → Quiet b) → Quiet (pick t a b)
unfolding pick
quiet_test true a b h k = h refl
quiet_test false a b h k = k refl

quiet_when : (t : Bool) (a : Stores) → (t ≡ true → Quiet a) → Quiet (pick t a [])
quiet_when t a h = quiet_test t a [] h (λ e. tt)

quiet_append : (a b : Stores) → Quiet a → Quiet b → Quiet (a ++ b)
quiet_append [] b h k = k
quiet_append (s ∷ a) b h k = (h.0, quiet_append a b h.1 k)

vd_below : (vd n : ℕ) (b : Bool) → (ltb vd n && b) ≡ true → vd < n
vd_below vd n b e = ltb-true vd n (and_left (ltb vd n) b e)

pub quiet_load : (srcb a : ℕ) (i : Insn) (L : ℕ) (exchanged : Bool) (even odd : ℕ) (own : Lane) → Quiet (load srcb a i L exchanged even odd own)
unfolding load load_with
quiet_load srcb a i L exchanged even odd own =
    quiet_when (loads i.vd own) _
    (λ e. (
      (quiet_register i.vd 0 (vd_below i.vd 8 _ e)).0,
      quiet_when (captures i.vd (own lane_config)) _
          (λ k. quiet_register (i.vd + 4) 0 (let h : i.vd < 4 = vd_below i.vd 4 _ k in omega arith)),
    ))

pub quiet_loadi : (i : Insn) (own : Lane) → Quiet (loadi i own)
unfolding loadi
quiet_loadi i own = quiet_when (ltb i.vd 8 && enabled own) _ (λ e. quiet_register i.vd 0 (vd_below i.vd 8 _ e))

quiet_answer : (m r3 r : ℕ) (x : Float) (t : Bool) → (t ≡ true → r < 8) → Quiet (lut_stores m r3 (pick t (Some (x, r)) None))
unfolding pick
quiet_answer m r3 r x true h = quiet_register r 0 (h refl)
quiet_answer m r3 r x false h = tt

pub quiet_lut : (i : Insn) (own : Lane) → Quiet (lut i own)
unfolding lut lut_with lut_answer
quiet_lut i own =
    quiet_answer i.md (own 3) (lut_register i.md i.vd (own 7)) _ (acts i.vd own && ltb (lut_register i.md i.vd (own 7)) 8)
    (λ e. ltb-true _ 8 (and_right (acts i.vd own) (ltb (lut_register i.md i.vd (own 7)) 8) e))

quiet_below : (n r w : ℕ) → n ≤ 8 → Quiet (below n r w)
unfolding below
quiet_below n r w h = quiet_when (ltb r n) ((r, w) ∷ []) (λ e. quiet_register r w (lt_of_lt_of_le (ltb-true r n e) h))

pub quiet_swap : (i : Insn) (L : ℕ) (own : Lane) → Quiet (swap i L own)
unfolding swap swap_with plain_swap index_swap
quiet_swap i L own =
    quiet_when _ _
    (λ e.
    quiet_test (bit (own lane_config) 2) _ _
    (λ k.
    quiet_append (below 4 i.vc _) _ (quiet_below 4 i.vc _ (omega arith))
    (quiet_append (below 4 i.vd _) _ (quiet_below 4 i.vd _ (omega arith))
    ((quiet_register (index_of i.vc) 0 (omega arith)).0, quiet_register (index_of i.vd) 0 (omega arith))))
    (λ k. quiet_append (below 8 i.vc _) _ (quiet_below 8 i.vc _ (omega arith)) (quiet_below 8 i.vd _ (omega arith))))

quiet_one : (s w : ℕ) → (s ≡ 13 → ⊥) → (s ≡ 14 → ⊥) → Quiet ((s, w) ∷ [])
quiet_one s w p q = ((p, q), tt)

pub quiet_config : (edition : ℕ) (i : Insn) (L : ℕ) (head own : Lane) → Quiet (config edition i L head own)
unfolding config config_with config_store high_store
quiet_config edition i L head own =
    quiet_test (passed_over i.md i.imm L (head use_flag) (head lane_flag)) [] _ (λ e. tt)
    (λ e.
    quiet_test (ltb i.vd 4) _ _ (λ a. quiet_one (15 + i.vd) 0 (λ z. omega arith) (λ z. omega arith))
    (λ a.
    quiet_test (ltb i.vd 8) _ _ (λ b. quiet_one (19 + (i.vd - 4)) 0 (λ z. omega arith) (λ z. omega arith))
    (λ b.
    quiet_test (eqb i.vd 8) _ _ (λ d. quiet_one 23 0 (λ z. omega arith) (λ z. omega arith))
    (λ d.
    quiet_test (ltb i.vd 11) [] _ (λ f. tt)
    (λ f.
    quiet_test (ltb i.vd 15) _ _
    (λ g. let hi : i.vd < 15 = ltb-true i.vd 15 g in quiet_one (i.vd - 3) 0 (λ z. omega arith) (λ z. omega arith))
    (λ g. quiet_one 12 0 (λ z. omega arith) (λ z. omega arith)))))))

pub quiet_word : (vd w : ℕ) (own : Lane) → Quiet (word_only vd w own)
unfolding word_only
quiet_word vd w own = quiet_when (computes vd own) _ (λ e. quiet_register vd w (vd_below vd 8 _ e))

pub quiet_valued : (op : ℕ) (i : Insn) (L : ℕ) (own : Lane) → Quiet (valued op i L own)
unfolding valued valued_with
quiet_valued op i L own = quiet_word i.vd _ own

-- A walk over one STORE, of register 15, which holds twice the lane number, to a Dst of zeros: forward, back, and back once more. Assumes nothing.
use mathlib.Core.Path.{◌≡◌, refl, sym, ap, ◌∙◌}
use Prim.Native.Nat.{ℕ, zero, suc, ◌%◌, ◌^◌, ◌<◌, ◌≤◌}
use native.Mathlib.Nat.{lt_of_not-le}
use native.Mathlib.Decide.{dec_le}
use native.Mathlib.Omega.{arith}
use mathlib.Core.Bool.{Bool, true, false}
use mathlib.Core.List.{List, [], ◌∷◌}
use lib.ListN.{length, get_or, get_or-eq_default}
use lib.Dec.{eqb}
use borrow.Author.Tests.{eqb-false}
use Rattle.lane.specs.declared.Insn.{Insn}
use Rattle.lane.specs.Words.{pick, bit, Lane, build, fixed_word, reg, enabled}
use Rattle.lane.specs.Load.{is_odd, is_met, owner_of}
use Rattle.lane.specs.Store.{cells, with_cell, stored_cell, store}
use Rattle.lane.specs.Rule.{cells_of}
use Rattle.lane.specs.Refusals.{pass, fields_good, instruction_answer}
use Rattle.lane.proofs.Places.{even_place}
use Rattle.lane.proofs.Cases.{pick_lt}
use Rattle.lane.proofs.Stores.{length_build, get_d_build}
use Rattle.runner.specs.Checks.{Found}
use Rattle.runner.specs.Image.{lane_in, of_lanes}
use Rattle.runner.specs.Checks.{insn_at, run_answer}
use Rattle.runner.specs.Run.{cells_after, dst_at, dst_after, stepped, steps, begin}
use Rattle.runner.specs.Walk as Walk
use Rattle.runner.proofs.Lanes.{lane_of_lanes}
use Rattle.runner.proofs.Dsts.{length_cells, cell_at, cell_of_lem}
use Rattle.runner.proofs.Accepted.{Each, run_accepted}
use Rattle.runner.proofs.Walks.{first_none, called_done, called_refused}
use Rattle.claims.specs.Twelve.{plainly}
use Rattle.claims.specs.Claims.{SixteenBits, Event, start_of, Walked, WalkOverStore}
use Rattle.claims.proofs.Instance.{zeros, zeros_formed, good_settings}
use Rattle.claims.proofs.Walks.{none_lent, entry_own, store_long, next_long, returned}

-- ---- the list, the Dst and the store

abbrev storing : Insn
storing = record { op = 16; imm = 0; vb = 0; vc = 0; vd = 15; md = 6 }

abbrev one_list : List ℕ
one_list = 16 ∷ 0 ∷ 0 ∷ 0 ∷ 15 ∷ 6 ∷ []

empty : List ℕ
empty = build 16384 (λ p. 0)

room : List ℕ
room = build 802 (λ p. 0)

one_good : Each one_list
unfolding insn_at instruction_answer fields_good pass pick
one_good zero l = refl
one_good (suc j) l = absurd (none j l)
  where
    none : (j : ℕ) → suc j < 1 → ⊥
    none j l = omega arith

empty_long : length empty ≡ 16384
unfolding empty
empty_long = length_build 16384 (λ p. 0)

accepts : (run_answer plainly (of_lanes zeros) empty one_list).answer ≡ 0
accepts =
    ap (λ (f : Found). f.answer)
    (run_accepted plainly (of_lanes zeros) empty one_list
    (record {
      passed =
          record {
            image_long = zeros_formed.long;
            dst_long = empty_long;
            list_given = record { settings_good_lem = good_settings; six = refl; few = omega arith };
            image_good_lem = zeros_formed.good;
          };
      each = one_good;
    }))

-- ---- cells of 16 bits

-- a list that has small words up to its end has no others
small_words : (n : ℕ) (ws : List ℕ) → length ws ≡ n → ((p : ℕ) → p < n → get_or ws p 0 < 2 ^ 16) → SixteenBits ws
unfolding SixteenBits
small_words n ws e h p =
    elim (dec_le n p) [ yes l ↦ past p (omega (arith, e)) | no l ↦ h p (lt_of_not-le l) ]
  where
    past : (p : ℕ) → length ws ≤ p → get_or ws p 0 < 2 ^ 16
    past p l = rw (get_or-eq_default ws 0 l) (omega arith)

empty_fits : SixteenBits empty
unfolding empty
empty_fits = small_words 16384 empty empty_long (λ p l. rw (get_d_build 16384 (λ p. 0) p l) (omega arith))

-- a STORE of low halves keeps them so
pair_small : (e o : Bool) (c even odd : ℕ) → c < 2 ^ 16 → even < 2 ^ 16 → odd < 2 ^ 16
    → ((pick e (with_cell o c even odd) (cells even odd)).even < 2 ^ 16) × ((pick e (with_cell o c even odd) (cells even odd)).odd < 2 ^ 16)
unfolding pick with_cell
pair_small true true c even odd h p q = (p, h)
pair_small true false c even odd h p q = (h, q)
pair_small false o c even odd h p q = (p, q)

store_small : (t : Bool) (L even odd : ℕ) (own : Lane) → even < 2 ^ 16 → odd < 2 ^ 16
    → ((cells_of 16 0 storing L t even odd own).even < 2 ^ 16) × ((cells_of 16 0 storing L t even odd own).odd < 2 ^ 16)
unfolding cells_of store stored_cell pick
store_small t L even odd own h k = pair_small (enabled own) (is_odd 0 t) (reg L own 15 % 2 ^ 16) even odd (omega arith) h k

-- ---- forward over the STORE

start : Walk.Standing
start = start_of plainly (of_lanes zeros) empty one_list room

there : Walk.Standing
there = Walk.forwarded plainly one_list start

-- the Dst that it leaves
stored : List ℕ
stored = dst_at storing 0 (of_lanes zeros) empty

there_dst : there.machine.dst ≡ stored
unfolding there start stored Walk.forwarded Walk.begun stepped dst_after insn_at
there_dst = refl

stored_fits : SixteenBits stored
unfolding SixteenBits stored dst_at cells_after
stored_fits =
    small_words 16384 stored (length_cells 0 empty (cells_after storing 0 (of_lanes zeros) empty))
    (λ p l.
    rw (cell_at 0 empty (cells_after storing 0 (of_lanes zeros) empty) p l)
    (pick_lt (is_met 0 p) _ _ (2 ^ 16)
    (pick_lt (eqb (p % 2) 1) _ _ (2 ^ 16) (store_small _ (owner_of p) _ _ _ (empty_fits _) (empty_fits _)).1 (store_small _ (owner_of p) _ _ _ (empty_fits _) (empty_fits _)).0)
    (empty_fits p)))

stores_two : (own : Lane) (config even odd : ℕ) → config ≡ 0 → own 14 ≡ 0 → (cells_of 16 0 storing 1 (bit config 5) even odd own).even ≡ 2
unfolding cells_of store with_cell stored_cell reg fixed_word pick
stores_two own config even odd c u = simp (c, u)

cell_two : get_or stored 2 0 ≡ 2
unfolding stored dst_at cells_after pick
cell_two =
    ap (λ (k : ℕ). get_or stored k 0) (even_place 0 1)
    ∙ cell_of_lem 0 empty (cells_after storing 0 (of_lanes zeros) empty) 1 false (omega arith) (omega arith)
    ∙ stores_two (lane_in (of_lanes zeros) 1) (lane_in (of_lanes zeros) 1 12) _ _ (lane_of_lanes zeros 1 12 (omega arith) (omega arith)) (lane_of_lanes zeros 1 14 (omega arith) (omega arith))

changes : there.machine.dst ≡ empty → ⊥
unfolding empty
changes h =
    eqb-false 2 0 refl (sym cell_two ∙ ap (λ (d : List ℕ). get_or d 2 0) (sym there_dst ∙ h) ∙ get_d_build 16384 (λ p. 0) 2 (omega arith))

-- ---- the calls

over : Event
over = record { call = Walk.forward; answer = 0; after = there; cells = rw there_dst stored_fits }

not_yet : Walked plainly (of_lanes zeros) empty one_list room []
unfolding Walk.begun
not_yet = record { began = accepts; cells = empty_fits; made = tt }

went_over : Walk.Called Walk.forward plainly one_list start 0 there
unfolding Walk.call_answer Walk.next_answer Walk.moved Walk.begun start there room pass pick
went_over =
    called_done Walk.forward plainly one_list start 0
    (sym (one_good 0 (omega arith))
    ∙ ap (λ (n : ℕ). pass (Walk.may_forward 0 1 n) 12 (instruction_answer true (insn_at one_list 0))) (sym (length_build 802 (λ p. 0)))
    ∙ sym (first_none (Walk.lent_answer plainly one_list start.machine) _ (none_lent plainly (of_lanes zeros) empty one_list room [] not_yet)))
    there refl refl

walked_over : Walked plainly (of_lanes zeros) empty one_list room (over ∷ [])
unfolding start over
walked_over = record { began = not_yet.began; cells = empty_fits; made = (went_over, tt) }

home : Walk.Standing
home = Walk.backed one_list there

-- the store that it is taken back from
kept_long : length there.store ≡ 802
unfolding there start Walk.forwarded Walk.begun steps room
kept_long =
    store_long 0 _ (build 802 (λ p. 0)) (next_long plainly one_list (begin plainly (of_lanes zeros) empty) zeros_formed.long empty_long 0) (omega (arith, length_build 802 (λ p. 0)))
    ∙ length_build 802 (λ p. 0)

home_is : home.machine ≡ begin plainly (of_lanes zeros) empty
unfolding home there start Walk.backed Walk.forwarded Walk.begun steps insn_at room
home_is =
    ap (λ (e : List ℕ). Walk.brought_back 16 e (stepped plainly (insn_at one_list 0) (begin plainly (of_lanes zeros) empty)).dst)
    (entry_own 0 _ (build 802 (λ p. 0)) (next_long plainly one_list (begin plainly (of_lanes zeros) empty) zeros_formed.long empty_long 0) (omega (arith, length_build 802 (λ p. 0))))
    ∙ returned plainly (insn_at one_list 0) (begin plainly (of_lanes zeros) empty) zeros_formed.long empty_long empty_fits

went_back : Walk.Called Walk.back plainly one_list there 0 home
unfolding Walk.call_answer Walk.last_answer Walk.moved pass pick home over there Walk.forwarded start Walk.begun
went_back =
    called_done Walk.back plainly one_list there 0
    (ap (λ (n : ℕ). pass (Walk.may_back there.done 1 n) 12 0) (sym kept_long)
    ∙ sym (first_none (Walk.lent_answer plainly one_list there.machine) _ (none_lent plainly (of_lanes zeros) empty one_list room (over ∷ []) walked_over)))
    home refl refl

back_home : Event
back_home = record { call = Walk.back; answer = 0; after = home; cells = rw home_is empty_fits }

walked_back : Walked plainly (of_lanes zeros) empty one_list room (over ∷ back_home ∷ [])
unfolding start over back_home
walked_back = record { began = not_yet.began; cells = empty_fits; made = (went_over, (went_back, tt)) }

refused_back : Walk.Called Walk.back plainly one_list home 12 home
unfolding Walk.call_answer Walk.last_answer Walk.backed pass pick home over back_home there Walk.forwarded start Walk.begun
refused_back =
    called_refused Walk.back plainly one_list home 12
    (sym (first_none (Walk.lent_answer plainly one_list home.machine) _ (none_lent plainly (of_lanes zeros) empty one_list room (over ∷ back_home ∷ []) walked_back)))
    (λ z. omega arith)

stayed_home : Event
stayed_home = record { call = Walk.back; answer = 12; after = home; cells = rw home_is empty_fits }

pub walk_over_store : WalkOverStore
unfolding start over back_home stayed_home insn_at
walk_over_store =
    record {
      settings = plainly;
      image = of_lanes zeros;
      dst = empty;
      list = one_list;
      store = room;
      over = over;
      returned = back_home;
      refused = stayed_home;
      walked = record { began = not_yet.began; cells = empty_fits; made = (went_over, (went_back, (refused_back, tt))) };
      is_store = refl;
      went_over = (refl, refl);
      went_back = (refl, refl);
      stayed = (refl, refl);
      changed = changes;
      restored = home_is;
    }

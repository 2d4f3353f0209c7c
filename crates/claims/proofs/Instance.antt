-- Two runs that isolation speaks of: a SWAP of registers 1 and 0, then a LOAD of the cell under lane 0, which is then stored four rows on, over images that
-- differ in lane 1 and Dsts that differ in cell 2. Assumes nothing.
use mathlib.Core.Path.{◌≡◌, refl, sym, ap, ◌∙◌}
use Prim.Native.Nat.{ℕ, zero, suc, ◌+◌, ◌%◌, ◌<◌, ◌≤◌}
use native.Mathlib.Omega.{arith}
use native.Mathlib.Decide.{ℕ_discrete}
use mathlib.Core.Bool.{Bool, true, false, ◌&&◌}
use mathlib.Core.List.{List, [], ◌∷◌}
use lib.ListN.{length, get_or}
use lib.Dec.{eqb}
use borrow.Author.Tests.{ne_eqb, eqb-false}
use Rattle.lane.specs.declared.Settings.{Settings}
use Rattle.lane.specs.declared.Insn.{Insn}
use Rattle.lane.specs.Words.{pick, bit, flag_of, Lane, Stores, build, reg, after, upd, register_stores}
use Rattle.lane.specs.Load.{stride, next_cursor, load, load_with, loaded, resolved}
use Rattle.lane.specs.Store.{with_cell, stored_cell, store}
use Rattle.lane.specs.Swap.{rank, ranks_below, ranks_equal, compared, in_mask, swaps, below, plain_swap, swap_with, swap, tied_with, tied}
use Rattle.lane.specs.Rule.{lanewise, stores_of, cells_of, is_tied}
use Rattle.lane.specs.Refusals.{pass, settings_good, fields_good, instruction_answer}
use Rattle.lane.proofs.Places.{even_place}
use Rattle.lane.proofs.Cases.{pick_false}
use Rattle.lane.proofs.Counted.{none_count}
use Rattle.lane.proofs.Tables.{below_all}
use Rattle.lane.proofs.Stores.{length_build, get_d_build, upd_other}
use Rattle.runner.specs.Checks.{Found}
use Rattle.runner.specs.declared.Outcome.{Outcome}
use Rattle.runner.specs.Image.{lane_in, of_lanes}
use Rattle.runner.specs.Checks.{insn_at, run_answer}
use Rattle.runner.specs.Run.{even_cell, odd_cell, lane_after, image_at, image_after, cells_after, dst_at, dst_after, stepped, steps, begin, finish, stores_at, stores_in, ties_by, stores_by, over_column, count_after, outcome_of, run_image, run_dst}
use Rattle.runner.proofs.Lanes.{lane_of_lanes, length_lanes}
use Rattle.runner.proofs.Dsts.{cell_of_lem, dst_kept}
use Rattle.runner.proofs.Accepted.{Each, run_accepted}
use Rattle.claims.specs.Twelve.{plainly}
use Rattle.claims.specs.Claims.{WellFormedImage, SameColumn, SameCells, TwoRuns}
use Rattle.claims.proofs.Kept.{good_lanes}
use Rattle.claims.proofs.Runs.{done, answered}
use Rattle.claims.proofs.Back.{store_leaves}

-- ---- the images: zeros, and 5 in register 0 of lane 1

abbrev pub zeros : ℕ → Lane
zeros L s = 0

abbrev five : ℕ → Lane
five L s = pick (eqb s 0 && eqb L 1) 5 0

pub zeros_formed : WellFormedImage (of_lanes zeros)
zeros_formed = record { long = length_lanes zeros; good = good_lanes zeros (λ L l. refl) }

five_formed : WellFormedImage (of_lanes five)
unfolding pick
five_formed = record { long = length_lanes five; good = good_lanes five (λ L l. refl) }

column_0 : SameColumn 0 (of_lanes zeros) (of_lanes five)
unfolding SameColumn pick
column_0 L s l q m =
    lane_of_lanes zeros L s l m ∙ sym (lane_of_lanes five L s l m ∙ ap (λ (t : Bool). pick (eqb s 0 && t) 5 0) (ne_eqb L 1 (λ z. omega arith)) ∙ none (eqb s 0))
  where
    none : (t : Bool) → pick {X = ℕ} (t && false) 5 0 ≡ 0
    none true = refl
    none false = refl

column_1 : SameColumn 1 (of_lanes zeros) (of_lanes five) → ⊥
unfolding SameColumn pick
column_1 h =
    eqb-false 0 5 refl
    (sym (lane_of_lanes zeros 1 0 (omega arith) (omega arith)) ∙ h 1 0 (omega arith) refl (omega arith) ∙ lane_of_lanes five 1 0 (omega arith) (omega arith))

-- ---- the Dsts: 9 in cell 0, and 7 in cell 2 of one of them

abbrev nine : ℕ → ℕ
nine p = pick (eqb p 0) 9 0

abbrev nine_and_seven : ℕ → ℕ
nine_and_seven p = pick (eqb p 0) 9 (pick (eqb p 2) 7 0)

one_dst : List ℕ
one_dst = build 16384 nine

two_dst : List ℕ
two_dst = build 16384 nine_and_seven

cells_0 : SameCells 0 one_dst two_dst
unfolding SameCells one_dst two_dst pick
cells_0 p l q =
    get_d_build 16384 nine p l
    ∙ sym (get_d_build 16384 nine_and_seven p l ∙ ap (λ (t : Bool). pick (eqb p 0) 9 (pick t 7 0)) (ne_eqb p 2 (λ z. omega arith)) ∙ ap (λ (n : ℕ). pick (eqb p 0) 9 n) other)
  where
    other : pick {X = ℕ} false 7 0 ≡ 0
    other = refl

cells_1 : SameCells 1 one_dst two_dst → ⊥
unfolding SameCells one_dst two_dst pick
cells_1 h =
    eqb-false 0 7 refl
    (sym (get_d_build 16384 nine 2 (omega arith)) ∙ h 2 (omega arith) refl ∙ get_d_build 16384 nine_and_seven 2 (omega arith))

-- ---- the list: SWAP of registers 1 and 0, which are equal but for lane 1 of one image, where they swap; LOAD of a cell as a number, to register 0; STORE of that to address 4

abbrev swapping : Insn
swapping = record { op = 4; imm = 0; vb = 0; vc = 1; vd = 0; md = 1 }

abbrev loading : Insn
loading = record { op = 1; imm = 0; vb = 0; vc = 0; vd = 0; md = 6 }

abbrev storing : Insn
storing = record { op = 16; imm = 4; vb = 0; vc = 0; vd = 0; md = 6 }

abbrev three_list : List ℕ
three_list = 4 ∷ 0 ∷ 0 ∷ 1 ∷ 0 ∷ 1 ∷ 1 ∷ 0 ∷ 0 ∷ 0 ∷ 0 ∷ 6 ∷ 16 ∷ 4 ∷ 0 ∷ 0 ∷ 0 ∷ 6 ∷ []

each_good : Each three_list
unfolding insn_at instruction_answer fields_good pass pick
each_good zero l = refl
each_good (suc zero) l = refl
each_good (suc (suc zero)) l = refl
each_good (suc (suc (suc j))) l = absurd (none j l)
  where
    none : (j : ℕ) → suc (suc (suc j)) < 3 → ⊥
    none j l = omega arith

pub good_settings : settings_good plainly ≡ true
unfolding settings_good
good_settings = refl

accepts : (image dst : List ℕ) → WellFormedImage image → length dst ≡ 16384 → (run_answer plainly image dst three_list).answer ≡ 0
accepts image dst w e =
    ap (λ (f : Found). f.answer)
    (run_accepted plainly image dst three_list
    (record {
      passed =
          record {
            image_long = w.long;
            dst_long = e;
            list_given = record { settings_good_lem = good_settings; six = refl; few = omega arith };
            image_good_lem = w.good;
          };
      each = each_good;
    }))

accepted_list : (run_answer plainly (of_lanes zeros) one_dst three_list).answer ≡ 0
unfolding one_dst
accepted_list = accepts (of_lanes zeros) one_dst zeros_formed (length_build 16384 nine)

accepted_other : (run_answer plainly (of_lanes five) two_dst three_list).answer ≡ 0
unfolding two_dst
accepted_other = accepts (of_lanes five) two_dst five_formed (length_build 16384 nine_and_seven)

-- what SWAP leaves
image_0 : List ℕ
image_0 = image_after plainly swapping 0 (of_lanes zeros) one_dst

dst_0 : List ℕ
dst_0 = dst_after plainly swapping 0 (of_lanes zeros) one_dst

-- what LOAD leaves after it
image_1 : List ℕ
image_1 = image_after plainly loading 0 image_0 dst_0

dst_1 : List ℕ
dst_1 = dst_after plainly loading 0 image_0 dst_0

-- and what STORE leaves after that
image_2 : List ℕ
image_2 = image_after plainly storing 0 image_1 dst_1

dst_2 : List ℕ
dst_2 = dst_after plainly storing 0 image_1 dst_1

finish_is : ((finish plainly (of_lanes zeros) one_dst three_list).image ≡ image_2) × ((finish plainly (of_lanes zeros) one_dst three_list).dst ≡ dst_2)
unfolding steps stepped insn_at next_cursor stride pick image_0 dst_0 image_1 dst_1 image_2 dst_2
finish_is = (refl, refl)

-- ---- lane 0 after SWAP: as it was, since equal words wait where vd wants the minimum

all_lanes : (L : ℕ) → in_mask 0xFFFFFFFF L ≡ true
all_lanes L = below_all 32 (λ k. bit 0xFFFFFFFF k) (L % 32) refl (omega arith)

swaps_none : (s : Settings) (L : ℕ) (head own : Lane) (even odd : ℕ) → own 0 ≡ 0 → own 1 ≡ 0 → own 12 ≡ 0 → own 14 ≡ 0
    → stores_of 4 s 0 swapping L head even odd own ≡ []
unfolding stores_of lanewise swap swap_with swaps compared ranks_below ranks_equal rank reg pick
swaps_none s L head own even odd a b c u = simp (a, b, c, u, all_lanes L)

-- where both registers are 0
none_swapped : (image dst : List ℕ) (L : ℕ) → lane_in image L 0 ≡ 0 → lane_in image L 1 ≡ 0 → lane_in image L 12 ≡ 0 → lane_in image L 14 ≡ 0
    → stores_at plainly swapping 0 image dst L ≡ []
none_swapped image dst L a b c u = swaps_none plainly L (lane_in image (L % 8)) (lane_in image L) (even_cell dst 0 L) (odd_cell dst 0 L) a b c u

swapped_at : (image dst : List ℕ) (L t : ℕ) → L < 32 → t < 24
    → lane_in (image_after plainly swapping 0 image dst) L t ≡ after (stores_at plainly swapping 0 image dst L) (lane_in image L) t
unfolding image_after image_at lane_after
swapped_at image dst L t l h = lane_of_lanes (lane_after plainly swapping 0 image dst) L t l h

zeros_swapped : (dst : List ℕ) (L : ℕ) → L < 32 → stores_at plainly swapping 0 (of_lanes zeros) dst L ≡ []
zeros_swapped dst L l =
    none_swapped (of_lanes zeros) dst L (lane_of_lanes zeros L 0 l (omega arith)) (lane_of_lanes zeros L 1 l (omega arith))
    (lane_of_lanes zeros L 12 l (omega arith)) (lane_of_lanes zeros L 14 l (omega arith))

zeros_after : (dst : List ℕ) (L t : ℕ) → L < 32 → t < 24 → lane_in (image_after plainly swapping 0 (of_lanes zeros) dst) L t ≡ 0
unfolding after
zeros_after dst L t l h =
    swapped_at (of_lanes zeros) dst L t l h ∙ ap (λ (st : Stores). after st (lane_in (of_lanes zeros) L) t) (zeros_swapped dst L l) ∙ lane_of_lanes zeros L t l h

zero_at : (s : ℕ) → s < 24 → lane_in image_0 0 s ≡ 0
unfolding image_0
zero_at s l = zeros_after one_dst 0 s (omega arith) l

same_dst : one_dst ≡ dst_0
unfolding one_dst dst_0 dst_after
same_dst = dst_kept swapping 0 (of_lanes zeros) one_dst (λ z. omega arith) (length_build 16384 nine)

-- ---- lane 0 after LOAD: register 0 holds the cell, LaneConfig and UseFlag are 0 as before

loads_even : (s : Settings) (head own : Lane) (even odd : ℕ) → head 12 ≡ 0 → own 12 ≡ 0 → own 14 ≡ 0 → (t : ℕ)
    → after (stores_of 1 s 0 loading 0 head even odd own) own t ≡ pick (eqb t 0) even (own t)
unfolding stores_of lanewise load load_with loaded resolved after upd pick
loads_even s head own even odd h c u t = simp (h, c, u)

lane_1 : (t : ℕ) → t < 24 → lane_in image_1 0 t ≡ pick (eqb t 0) (even_cell dst_0 0 0) (lane_in image_0 0 t)
unfolding image_1 image_after image_at lane_after
lane_1 t l =
    lane_of_lanes (lane_after plainly loading 0 image_0 dst_0) 0 t (omega arith) l
    ∙ loads_even plainly (lane_in image_0 0) (lane_in image_0 0) (even_cell dst_0 0 0) (odd_cell dst_0 0 0) (zero_at 12 (omega arith))
    (zero_at 12 (omega arith)) (zero_at 14 (omega arith)) t

first_cell : even_cell dst_0 0 0 ≡ 9
unfolding one_dst pick
first_cell =
    ap (λ (d : List ℕ). even_cell d 0 0) (sym same_dst) ∙ ap (λ (k : ℕ). get_or one_dst k 0) (sym (even_place 0 0)) ∙ get_d_build 16384 nine 0 (omega arith)

word_1 : lane_in image_1 0 0 ≡ 9
unfolding pick
word_1 = lane_1 0 (omega arith) ∙ first_cell

config_1 : lane_in image_1 0 12 ≡ 0
unfolding pick
config_1 = lane_1 12 (omega arith) ∙ zero_at 12 (omega arith)

use_1 : lane_in image_1 0 14 ≡ 0
unfolding pick
use_1 = lane_1 14 (omega arith) ∙ zero_at 14 (omega arith)

-- ---- and after STORE: the register stays, and the cell holds it

word_2 : lane_in image_2 0 0 ≡ 9
unfolding image_2
word_2 = store_leaves plainly storing 0 image_1 dst_1 0 0 refl (omega arith) (omega arith) ∙ word_1

stores_even : (own : Lane) (config even odd : ℕ) → config ≡ 0 → own 14 ≡ 0 → own 0 ≡ 9 → (cells_of 16 4 storing 0 (bit config 5) even odd own).even ≡ 9
unfolding cells_of store with_cell stored_cell reg pick
stores_even own config even odd c u w = simp (c, u, w)

cell_2 : get_or dst_2 64 0 ≡ 9
unfolding dst_2 dst_after dst_at cells_after pick
cell_2 =
    ap (λ (k : ℕ). get_or dst_2 k 0) (even_place 4 0)
    ∙ cell_of_lem 4 dst_1 (cells_after storing 4 image_1 dst_1) 0 false (omega arith) (omega arith)
    ∙ stores_even (lane_in image_1 0) (lane_in image_1 0 12) _ _ config_1 use_1 word_1

changes : SameColumn 0 (of_lanes zeros) (run_image plainly (of_lanes zeros) one_dst three_list) → ⊥
unfolding SameColumn
changes h =
    eqb-false 0 9 refl
    (sym (lane_of_lanes zeros 0 0 (omega arith) (omega arith)) ∙ h 0 0 (omega arith) refl (omega arith)
    ∙ ap (λ (x : List ℕ). lane_in x 0 0) ((done plainly (of_lanes zeros) one_dst three_list accepted_list).1.0 ∙ finish_is.0) ∙ word_2)

changes_cells : SameCells 0 one_dst (run_dst plainly (of_lanes zeros) one_dst three_list) → ⊥
unfolding SameCells one_dst pick
changes_cells h =
    eqb-false 0 9 refl
    (sym (get_d_build 16384 nine 64 (omega arith)) ∙ h 64 (omega arith) refl
    ∙ ap (λ (x : List ℕ). get_or x 64 0) ((done plainly (of_lanes zeros) one_dst three_list accepted_list).1.1 ∙ finish_is.1) ∙ cell_2)

-- ---- the ties: SWAP alone compares, and each lane of zeros meets an equal pair

tied_zeros : (L : ℕ) (own : Lane) → own 0 ≡ 0 → own 1 ≡ 0 → own 14 ≡ 0 → flag_of (is_tied 4 swapping L own) ≡ 1
unfolding is_tied tied tied_with compared ranks_below ranks_equal rank reg flag_of pick
tied_zeros L own a b u = simp (a, b, u)

untied_five : (L : ℕ) (own : Lane) → own 0 ≡ 5 → own 1 ≡ 0 → own 14 ≡ 0 → flag_of (is_tied 4 swapping L own) ≡ 0
unfolding is_tied tied tied_with compared ranks_below ranks_equal rank reg flag_of pick
untied_five L own a b u = simp (a, b, u)

counted_is : (image dst : List ℕ) (c : ℕ)
    → count_after ties_by plainly three_list 3 (begin plainly image dst) c ≡ over_column (λ L. flag_of (is_tied 4 swapping L (lane_in image L))) c
unfolding count_after steps insn_at is_tied flag_of pick
counted_is image dst c = whole (over_column (λ L. flag_of (is_tied 4 swapping L (lane_in image L))) c)
  where
    whole : (x : ℕ) → 0 + x + 0 + 0 ≡ x
    whole x = omega arith

count_of : (image dst : List ℕ) (c : ℕ) → (run_answer plainly image dst three_list).answer ≡ 0 → c < 8
    → get_or (outcome_of plainly image dst three_list).ties c 0 ≡ over_column (λ L. flag_of (is_tied 4 swapping L (lane_in image L))) c
count_of image dst c h l =
    ap (λ (o : Outcome). get_or o.ties c 0) (done plainly image dst three_list h).0
    ∙ get_d_build 8 (count_after ties_by plainly three_list 3 (begin plainly image dst)) c l ∙ counted_is image dst c

sum : (a b c d x y z w : ℕ) → a ≡ x → b ≡ y → c ≡ z → d ≡ w → a + b + c + d ≡ x + y + z + w
sum a b c d x y z w p q r s = omega arith

zeros_tied : (L : ℕ) → L < 32 → flag_of (is_tied 4 swapping L (lane_in (of_lanes zeros) L)) ≡ 1
zeros_tied L l =
    tied_zeros L (lane_in (of_lanes zeros) L) (lane_of_lanes zeros L 0 l (omega arith)) (lane_of_lanes zeros L 1 l (omega arith))
    (lane_of_lanes zeros L 14 l (omega arith))

zeros_count : (c : ℕ) → c < 8 → get_or (outcome_of plainly (of_lanes zeros) one_dst three_list).ties c 0 ≡ 4
zeros_count c l =
    count_of (of_lanes zeros) one_dst c accepted_list l
    ∙ sum _ _ _ _ 1 1 1 1 (zeros_tied c (omega arith)) (zeros_tied (8 + c) (omega arith)) (zeros_tied (16 + c) (omega arith)) (zeros_tied (24 + c) (omega arith))

five_tied : (L : ℕ) → L < 32 → (L ≡ 1 → ⊥) → flag_of (is_tied 4 swapping L (lane_in (of_lanes five) L)) ≡ 1
unfolding pick
five_tied L l n =
    tied_zeros L (lane_in (of_lanes five) L)
    (lane_of_lanes five L 0 l (omega arith) ∙ ap (λ (t : Bool). pick t 5 0) (ne_eqb L 1 n))
    (lane_of_lanes five L 1 l (omega arith)) (lane_of_lanes five L 14 l (omega arith))

five_count : get_or (outcome_of plainly (of_lanes five) two_dst three_list).ties 1 0 ≡ 3
unfolding pick
five_count =
    count_of (of_lanes five) two_dst 1 accepted_other (omega arith)
    ∙ sum _ _ _ _ 0 1 1 1
    (untied_five 1 (lane_in (of_lanes five) 1) (lane_of_lanes five 1 0 (omega arith) (omega arith)) (lane_of_lanes five 1 1 (omega arith) (omega arith))
    (lane_of_lanes five 1 14 (omega arith) (omega arith)))
    (five_tied 9 (omega arith) (λ z. omega arith)) (five_tied 17 (omega arith) (λ z. omega arith)) (five_tied 25 (omega arith) (λ z. omega arith))

-- ---- the stores: one in each lane by LOAD, none by STORE, and two by SWAP in lane 1 of one image

load_stores : (s : Settings) (a L : ℕ) (head own : Lane) (even odd : ℕ) → own 12 ≡ 0 → own 14 ≡ 0 → register_stores (stores_of 1 s a loading L head even odd own) ≡ 1
unfolding stores_of lanewise load load_with register_stores flag_of pick
load_stores s a L head own even odd c u = simp (c, u)

store_stores : (s : Settings) (a L : ℕ) (head own : Lane) (even odd : ℕ) → register_stores (stores_of 16 s a storing L head even odd own) ≡ 0
unfolding stores_of lanewise register_stores pick
store_stores s a L head own even odd = refl

traffic_is : (image dst : List ℕ) (c : ℕ)
    → count_after (stores_by plainly) plainly three_list 3 (begin plainly image dst) c
    ≡ over_column (stores_in plainly swapping 0 image dst) c
    + over_column (stores_in plainly loading 0 (image_after plainly swapping 0 image dst) (dst_after plainly swapping 0 image dst)) c
unfolding count_after steps stepped insn_at next_cursor stride pick
traffic_is image dst c =
    whole _ _ _ _ _ _ (store_stores plainly 4 c _ _ _ _) (store_stores plainly 4 (8 + c) _ _ _ _) (store_stores plainly 4 (16 + c) _ _ _ _)
    (store_stores plainly 4 (24 + c) _ _ _ _)
  where
    whole : (x y a b d e : ℕ) → a ≡ 0 → b ≡ 0 → d ≡ 0 → e ≡ 0 → 0 + x + y + (a + b + d + e) ≡ x + y
    whole x y a b d e p q r t = omega arith

traffic_of : (image dst : List ℕ) (c : ℕ) → (run_answer plainly image dst three_list).answer ≡ 0 → c < 8
    → get_or (outcome_of plainly image dst three_list).stores c 0
    ≡ over_column (stores_in plainly swapping 0 image dst) c
    + over_column (stores_in plainly loading 0 (image_after plainly swapping 0 image dst) (dst_after plainly swapping 0 image dst)) c
traffic_of image dst c h l =
    ap (λ (o : Outcome). get_or o.stores c 0) (done plainly image dst three_list h).0
    ∙ get_d_build 8 (count_after (stores_by plainly) plainly three_list 3 (begin plainly image dst)) c l ∙ traffic_is image dst c

zeros_none : (dst : List ℕ) (L : ℕ) → L < 32 → stores_in plainly swapping 0 (of_lanes zeros) dst L ≡ 0
zeros_none dst L l = ap register_stores (zeros_swapped dst L l) ∙ none_count

zeros_loaded : (dst d : List ℕ) (L : ℕ) → L < 32 → stores_in plainly loading 0 (image_after plainly swapping 0 (of_lanes zeros) dst) d L ≡ 1
zeros_loaded dst d L l = load_stores plainly 0 L _ _ _ _ (zeros_after dst L 12 l (omega arith)) (zeros_after dst L 14 l (omega arith))

both : (x y u v : ℕ) → x ≡ u → y ≡ v → x + y ≡ u + v
both x y u v p q = omega arith

zeros_traffic : (c : ℕ) → c < 8 → get_or (outcome_of plainly (of_lanes zeros) one_dst three_list).stores c 0 ≡ 4
zeros_traffic c l =
    let none = zeros_none one_dst in
    let one = zeros_loaded one_dst (dst_after plainly swapping 0 (of_lanes zeros) one_dst) in
    traffic_of (of_lanes zeros) one_dst c accepted_list l
    ∙ both _ _ 0 4 (sum _ _ _ _ 0 0 0 0 (none c (omega arith)) (none (8 + c) (omega arith)) (none (16 + c) (omega arith)) (none (24 + c) (omega arith)))
    (sum _ _ _ _ 1 1 1 1 (one c (omega arith)) (one (8 + c) (omega arith)) (one (16 + c) (omega arith)) (one (24 + c) (omega arith)))

-- lane 1 of the other image swaps 5 for 0
swaps_five : (s : Settings) (head own : Lane) (even odd : ℕ) → own 0 ≡ 5 → own 1 ≡ 0 → own 12 ≡ 0 → own 14 ≡ 0
    → stores_of 4 s 0 swapping 1 head even odd own ≡ (1, 5) ∷ (0, 0) ∷ []
unfolding stores_of lanewise swap swap_with swaps plain_swap below compared ranks_below ranks_equal rank reg pick
swaps_five s head own even odd a b c u = simp (a, b, c, u)

five_swapped : (dst : List ℕ) → stores_at plainly swapping 0 (of_lanes five) dst 1 ≡ (1, 5) ∷ (0, 0) ∷ []
unfolding pick
five_swapped dst =
    swaps_five plainly (lane_in (of_lanes five) 1) (lane_in (of_lanes five) 1) (even_cell dst 0 1) (odd_cell dst 0 1)
    (lane_of_lanes five 1 0 (omega arith) (omega arith)) (lane_of_lanes five 1 1 (omega arith) (omega arith))
    (lane_of_lanes five 1 12 (omega arith) (omega arith)) (lane_of_lanes five 1 14 (omega arith) (omega arith))

five_none : (dst : List ℕ) (L : ℕ) → L < 32 → (L ≡ 1 → ⊥) → stores_at plainly swapping 0 (of_lanes five) dst L ≡ []
unfolding pick
five_none dst L l n =
    none_swapped (of_lanes five) dst L (lane_of_lanes five L 0 l (omega arith) ∙ ap (λ (t : Bool). pick t 5 0) (ne_eqb L 1 n))
    (lane_of_lanes five L 1 l (omega arith)) (lane_of_lanes five L 12 l (omega arith)) (lane_of_lanes five L 14 l (omega arith))

five_after : (dst : List ℕ) (L t : ℕ) → L < 32 → 12 ≤ t → t < 24 → lane_in (image_after plainly swapping 0 (of_lanes five) dst) L t ≡ 0
unfolding after
five_after dst L t l k h =
    swapped_at (of_lanes five) dst L t l h
    ∙ elim (ℕ_discrete L 1) [
      | yes e ↦ rw e (ap (λ (st : Stores). after st (lane_in (of_lanes five) 1) t) (five_swapped dst)
          ∙ upd_other (upd (lane_in (of_lanes five) 1) 1 5) 0 0 t (λ z. omega arith)
          ∙ upd_other (lane_in (of_lanes five) 1) 1 5 t (λ z. omega arith)
          ∙ past 1 (omega arith))
      | no n ↦ ap (λ (st : Stores). after st (lane_in (of_lanes five) L) t) (five_none dst L l n) ∙ past L l
    ]
  where
    past : (L : ℕ) → L < 32 → lane_in (of_lanes five) L t ≡ 0
    past L l = lane_of_lanes five L t l h ∙ ap (λ (b : Bool). pick (b && eqb L 1) 5 0) (ne_eqb t 0 (λ z. omega arith)) ∙ pick_false false 5 0 refl

five_loaded : (dst d : List ℕ) (L : ℕ) → L < 32 → stores_in plainly loading 0 (image_after plainly swapping 0 (of_lanes five) dst) d L ≡ 1
five_loaded dst d L l =
    load_stores plainly 0 L _ _ _ _ (five_after dst L 12 l (omega arith) (omega arith)) (five_after dst L 14 l (omega arith) (omega arith))

five_still : (L : ℕ) → L < 32 → (L ≡ 1 → ⊥) → stores_in plainly swapping 0 (of_lanes five) two_dst L ≡ 0
five_still L l n = ap register_stores (five_none two_dst L l n) ∙ none_count

five_traffic : get_or (outcome_of plainly (of_lanes five) two_dst three_list).stores 1 0 ≡ 6
unfolding register_stores flag_of pick
five_traffic =
    let one = five_loaded two_dst (dst_after plainly swapping 0 (of_lanes five) two_dst) in
    traffic_of (of_lanes five) two_dst 1 accepted_other (omega arith)
    ∙ both _ _ 2 4
    (sum _ _ _ _ 2 0 0 0 (ap register_stores (five_swapped two_dst)) (five_still 9 (omega arith) (λ z. omega arith)) (five_still 17 (omega arith) (λ z. omega arith))
    (five_still 25 (omega arith) (λ z. omega arith)))
    (sum _ _ _ _ 1 1 1 1 (one 1 (omega arith)) (one 9 (omega arith)) (one 17 (omega arith)) (one 25 (omega arith)))

pub two_runs : TwoRuns
unfolding one_dst two_dst
two_runs =
    record {
      settings = plainly;
      list = three_list;
      image = of_lanes zeros;
      other_image = of_lanes five;
      dst = one_dst;
      other_dst = two_dst;
      outcome = outcome_of plainly (of_lanes zeros) one_dst three_list;
      other_outcome = outcome_of plainly (of_lanes five) two_dst three_list;
      after = run_image plainly (of_lanes zeros) one_dst three_list;
      other_after = run_image plainly (of_lanes five) two_dst three_list;
      stored = run_dst plainly (of_lanes zeros) one_dst three_list;
      other_stored = run_dst plainly (of_lanes five) two_dst three_list;
      formed = zeros_formed;
      other_formed = five_formed;
      dst_long = length_build 16384 nine;
      other_dst_long = length_build 16384 nine_and_seven;
      same_column = column_0;
      same_cells = cells_0;
      images_differ = column_1;
      dsts_differ = cells_1;
      ran = record { outcome_is = refl; image_is = refl; dst_is = refl };
      other_ran = record { outcome_is = refl; image_is = refl; dst_is = refl };
      accepted = answered plainly (of_lanes zeros) one_dst three_list ∙ accepted_list;
      changed = changes;
      cells_changed = changes_cells;
      tied = zeros_count 0 (omega arith);
      counts_differ = λ h. eqb-false 4 3 refl (sym (zeros_count 1 (omega arith)) ∙ h ∙ five_count);
      made = zeros_traffic 0 (omega arith);
      stores_differ = λ h. eqb-false 4 6 refl (sym (zeros_traffic 1 (omega arith)) ∙ h ∙ five_traffic);
    }

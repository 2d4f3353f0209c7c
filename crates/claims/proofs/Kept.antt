-- What the steps through a list keep: a well formed image stays well formed, and image and Dst keep their lengths. Assumes nothing.
use mathlib.Core.Path.{◌≡◌, refl, ap, ◌∙◌}
use Prim.Native.Nat.{ℕ, zero, suc, ◌%◌, ◌<◌}
use native.Mathlib.Nat.{le_step, le_refl}
use native.Mathlib.Omega.{arith}
use mathlib.Core.Bool.{Bool, true, ◌&&◌}
use mathlib.Core.List.{List}
use lib.ListN.{length}
use Rattle.lane.specs.declared.Settings.{Settings}
use Rattle.lane.specs.declared.Insn.{Insn}
use Rattle.lane.specs.Words.{Lane}
use Rattle.lane.specs.Load.{address}
use Rattle.lane.specs.Refusals.{well_formed}
use Rattle.lane.proofs.Tables.{and_left, and_right}
use Rattle.claims.proofs.WellFormed.{stays_well_formed}
use Rattle.runner.specs.Image.{lane_in, of_lanes, lanes_good, image_good}
use Rattle.runner.specs.Checks.{insn_at}
use Rattle.runner.specs.Run.{Machine, lane_after, image_at, image_after, stepped, steps}
use Rattle.runner.proofs.Lanes.{lane_of_lanes}
use Rattle.runner.proofs.Steps.{length_after, length_dst_after}

both : (a b : Bool) → a ≡ true → b ≡ true → (a && b) ≡ true
both a b p q = ap (λ (x : Bool). x && b) p ∙ q

-- the lanes that a well formed image has, and the image that well formed lanes make
pub good_lane : (image : List ℕ) (n L : ℕ) → lanes_good image n ≡ true → L < n → well_formed (lane_in image L) ≡ true
unfolding lanes_good
good_lane image zero L h l = absurd (none L l)
  where
    none : (L : ℕ) → L < 0 → ⊥
    none L l = omega arith
good_lane image (suc n) L h l =
    go (native.Mathlib.Decide.ℕ_discrete L n) (λ k. good_lane image n L (and_left (lanes_good image n) (well_formed (lane_in image n)) h) k)
  where
    go : Dec (L ≡ n) → (L < n → well_formed (lane_in image L) ≡ true) → well_formed (lane_in image L) ≡ true
    go (yes e) r = ap (λ (x : ℕ). well_formed (lane_in image x)) e ∙ and_right (lanes_good image n) (well_formed (lane_in image n)) h
    go (no e) r = r (omega arith)

good_below : (image : List ℕ) (n : ℕ) → ((L : ℕ) → L < n → well_formed (lane_in image L) ≡ true) → lanes_good image n ≡ true
unfolding lanes_good
good_below image zero h = refl
good_below image (suc n) h =
    both (lanes_good image n) (well_formed (lane_in image n)) (good_below image n (λ L l. h L (le_step l))) (h n (le_refl (suc n)))

pub good_lanes : (F : ℕ → Lane) → ((L : ℕ) → L < 32 → well_formed (F L) ≡ true) → image_good (of_lanes F) ≡ true
good_lanes F h = good_below (of_lanes F) 32 (λ L l. same L l ∙ h L l)
  where
    same : (L : ℕ) → L < 32 → well_formed (lane_in (of_lanes F) L) ≡ well_formed (F L)
    same L l =
        cc (
          lane_of_lanes F L 12 l (omega arith),
          lane_of_lanes F L 13 l (omega arith),
          lane_of_lanes F L 14 l (omega arith),
          lane_of_lanes F L 23 l (omega arith),
        )

-- one instruction
pub good_after : (s : Settings) (i : Insn) (cursor : ℕ) (image dst : List ℕ) → image_good image ≡ true → image_good (image_after s i cursor image dst) ≡ true
unfolding image_after image_at lane_after
good_after s i cursor image dst h =
    good_lanes (lane_after s i (address i.imm s.offset cursor) image dst)
    (λ L l. stays_well_formed i.op s _ i L (lane_in image (L % 8)) _ _ (lane_in image L) (good_lane image 32 L h l))

-- any number of instructions
pub good_steps : (s : Settings) (list : List ℕ) (n : ℕ) (m : Machine) → image_good m.image ≡ true → image_good (steps s list n m).image ≡ true
unfolding steps stepped
good_steps s list zero m h = h
good_steps s list (suc n) m h =
    good_after s (insn_at list n) (steps s list n m).cursor (steps s list n m).image (steps s list n m).dst (good_steps s list n m h)

-- and image and Dst keep their lengths
pub length_steps : (s : Settings) (list : List ℕ) (n : ℕ) (m : Machine) → length m.image ≡ 768 → length (steps s list n m).image ≡ 768
unfolding steps stepped
length_steps s list zero m h = h
length_steps s list (suc n) m h =
    length_after s (insn_at list n) (steps s list n m).cursor (steps s list n m).image (steps s list n m).dst

pub length_dst_steps : (s : Settings) (list : List ℕ) (n : ℕ) (m : Machine) → length m.dst ≡ 16384 → length (steps s list n m).dst ≡ 16384
unfolding steps stepped
length_dst_steps s list zero m h = h
length_dst_steps s list (suc n) m h =
    length_dst_after s (insn_at list n) (steps s list n m).cursor (steps s list n m).image (steps s list n m).dst

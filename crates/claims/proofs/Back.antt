-- A STORE directly followed by a LOAD at the same address gives the word back. Assumes nothing.
use mathlib.Core.Path.{◌≡◌, refl, sym, ap, ◌∙◌}
use Prim.Native.Nat.{ℕ, suc, ◌+◌, ◌%◌, ◌<◌}
use native.Mathlib.Omega.{arith}
use mathlib.Core.Bool.{Bool, true, false, not, ◌&&◌}
use mathlib.Core.List.{List, [], ◌∷◌}
use mathlib.Core.Logic.{◌⊎◌, inl, inr}
use lib.ListN.{get_or}
use lib.Dec.{eqb}
use borrow.Author.Tests.{lt-ltb, ne_eqb}
use Rattle.lane.specs.declared.Settings.{Settings}
use Rattle.lane.specs.declared.Insn.{Insn}
use Rattle.lane.specs.declared.Cells.{Cells}
use Rattle.lane.specs.Words.{pick, bit, Lane, Stores, lane_config, reg, enabled, after}
use Rattle.lane.specs.Load.{address, is_odd, place_of, loaded, resolved, loads, captures, load_with, load}
use Rattle.lane.specs.Store.{with_cell, stored_cell, store}
use Rattle.lane.specs.Rule.{stores_of}
use Rattle.lane.proofs.Cases.{pick_true, pick_false}
use Rattle.lane.proofs.Packed.{high_back, low_back}
use Rattle.lane.proofs.Stores.{upd_same, upd_other}
use Rattle.runner.specs.Image.{lane_in}
use Rattle.runner.specs.Checks.{insn_at}
use Rattle.runner.specs.Run.{Machine, even_cell, odd_cell, lane_after, image_at, image_after, cells_after, dst_at, dst_after, stepped, steps}
use Rattle.runner.proofs.Lanes.{lane_of_lanes}
use Rattle.runner.proofs.Dsts.{cell_of_lem}
use Rattle.runner.proofs.Steps.{load_stores, store_none, store_cells}
use Rattle.claims.specs.Claims.{GivesBack, address_at, StoredThenLoaded}

-- ---- one lane

-- of a lane's two cells with a new one in the place of one, the new one is picked
picked_back : (odd : Bool) (cell e o : ℕ) (c : Cells) → c ≡ with_cell odd cell e o → pick odd (pick true c.odd c.even) (pick false c.odd c.even) ≡ cell
unfolding pick with_cell
picked_back true cell e o c p = ap (λ (x : Cells). x.odd) p
picked_back false cell e o c p = ap (λ (x : Cells). x.even) p

-- a LOAD's word is in vd afterwards, whether or not it captures the place
word_loaded : (t : Bool) (vd w place : ℕ) (own : Lane) → after ((vd, w) ∷ pick t ((vd + 4, place) ∷ []) []) own vd ≡ w
unfolding pick after
word_loaded true vd w place own = upd_other _ (vd + 4) place vd (λ e. omega arith) ∙ upd_same own vd w
word_loaded false vd w place own = upd_same own vd w

loads_true : (vd : ℕ) (own : Lane) → vd < 8 → enabled own ≡ true → bit (own lane_config) 1 ≡ false → loads vd own ≡ true
loads_true vd own h e b =
    ap (λ (t : Bool). t && (enabled own && not (bit (own lane_config) 1))) (lt-ltb vd 8 h)
    ∙ ap (λ (t : Bool). t && not (bit (own lane_config) 1)) e ∙ ap not b

load_with_lem : (vd m cell place : ℕ) (own : Lane) → loads vd own ≡ true → after (load_with vd m cell place own) own vd ≡ loaded m (bit (own lane_config) 0) (own vd) cell
unfolding load_with
load_with_lem vd m cell place own h =
    ap (λ (st : Stores). after st own vd) (pick_true (loads vd own) _ [] h) ∙ word_loaded (captures vd (own lane_config)) vd _ place own

load_leaves : (op : ℕ) (s : Settings) (a : ℕ) (i : Insn) (L : ℕ) (head : Lane) (even odd : ℕ) (own : Lane) → op ≡ 1 → loads i.vd own ≡ true
    → after (stores_of op s a i L head even odd own) own i.vd
    ≡ loaded (resolved s.srcb i.md) (bit (own lane_config) 0) (own i.vd) (pick (is_odd a (bit (head lane_config) 5)) odd even)
unfolding load
load_leaves op s a i L head even odd own e h =
    ap (λ (st : Stores). after st own i.vd) (is_load op e) ∙ load_with_lem i.vd (resolved s.srcb i.md) _ _ own h
  where
    is_load : (op : ℕ) → op ≡ 1 → stores_of op s a i L head even odd own ≡ load s.srcb a i L (bit (head lane_config) 5) even odd own
    is_load op e = sym (load_stores op s a i L head even odd own e)

-- mods other than 0 stand for themselves
plain_mod : (srcb m : ℕ) → (m ≡ 0 → ⊥) → resolved srcb m ≡ m
unfolding resolved
plain_mod srcb m h = pick_false (eqb m 0) srcb m (ne_eqb m 0 h)

gives : (srcb m n w old back : ℕ) (inf : Bool) → back ≡ loaded (resolved srcb n) inf old (stored_cell m w) → GivesBack m n w back
gives srcb m n w old back inf e =
    record {
      high = λ h. e ∙ ap (λ (k : ℕ). loaded k inf old (stored_cell m w)) (plain_mod srcb n (λ z. high_mod h z)) ∙ high_back inf old w m n h;
      low = λ h k. e ∙ ap (λ (k : ℕ). loaded k inf old (stored_cell m w)) (plain_mod srcb n (λ z. low_mod k z)) ∙ low_back inf old w m n h k;
    }
  where
    high_mod : ((m ≡ 2) × (n ≡ 2)) ⊎ ((m ≡ 7) × (n ≡ 7)) → n ≡ 0 → ⊥
    high_mod (inl h) z = let q = h.1 in omega arith
    high_mod (inr h) z = let q = h.1 in omega arith

    low_mod : (n ≡ 6) ⊎ (n ≡ 9) → n ≡ 0 → ⊥
    low_mod (inl h) z = omega arith
    low_mod (inr h) z = omega arith

-- ---- the two instructions, from any image and Dst

-- STORE leaves every lane
pub store_leaves : (s : Settings) (i : Insn) (cursor : ℕ) (image dst : List ℕ) (M t : ℕ) → i.op ≡ 16 → M < 32 → t < 24
    → lane_in (image_after s i cursor image dst) M t ≡ lane_in image M t
unfolding image_after image_at lane_after after
store_leaves s i cursor image dst M t e h k =
    lane_of_lanes (lane_after s i (address i.imm s.offset cursor) image dst) M t h k
    ∙ ap (λ (st : Stores). after st (lane_in image M) t) (store_none i.op s (address i.imm s.offset cursor) i M _ _ _ (lane_in image M) e)

after_step : (s : Settings) (i : Insn) (m : Machine) → (stepped s i m).image ≡ image_at s i (address_at s i m) m.image m.dst
unfolding stepped image_after
after_step s i m = refl

module _ (s : Settings) (i j : Insn) (m : Machine) (L : ℕ) (store-op : i.op ≡ 16) (load-op : j.op ≡ 1) (low : j.vd < 8)
    (same_address : address_at s j (stepped s i m) ≡ address_at s i m) (l : L < 32) (on : enabled (lane_in m.image L) ≡ true)
    (free : bit (lane_in m.image L lane_config) 1 ≡ false) where
  lane_left : (M t : ℕ) → M < 32 → t < 24 → lane_in (stepped s i m).image M t ≡ lane_in m.image M t
  unfolding stepped
  lane_left M t h k = store_leaves s i m.cursor m.image m.dst M t store-op h k

  -- and its two cells, in this one
  cells_left : cells_after i (address_at s i m) m.image m.dst L
      ≡ with_cell (is_odd (address_at s i m) (bit (lane_in m.image (L % 8) 12) 5)) (stored_cell i.md (reg L (lane_in m.image L) i.vd))
      (even_cell m.dst (address_at s i m) L) (odd_cell m.dst (address_at s i m) L)
  unfolding cells_after store
  cells_left =
      sym (store_cells i.op (address_at s i m) i L (bit (lane_in m.image (L % 8) 12) 5) _ _ (lane_in m.image L) store-op)
      ∙ pick_true (enabled (lane_in m.image L)) _ _ on

  cell_left : (odd : Bool) → get_or (stepped s i m).dst (place_of (address_at s i m) L odd) 0
      ≡ pick odd (cells_after i (address_at s i m) m.image m.dst L).odd (cells_after i (address_at s i m) m.image m.dst L).even
  unfolding stepped dst_after dst_at
  cell_left odd = cell_of_lem (address_at s i m) m.dst (cells_after i (address_at s i m) m.image m.dst) L odd (omega arith) l

  -- the cell that LOAD picks is the one that STORE stored
  cell_back : pick (is_odd (address_at s i m) (bit (lane_in (stepped s i m).image (L % 8) 12) 5)) (odd_cell (stepped s i m).dst (address_at s i m) L)
      (even_cell (stepped s i m).dst (address_at s i m) L)
      ≡ stored_cell i.md (reg L (lane_in m.image L) i.vd)
  cell_back =
      ap (λ (w : ℕ). pick (is_odd (address_at s i m) (bit w 5)) (odd_cell (stepped s i m).dst (address_at s i m) L) (even_cell (stepped s i m).dst (address_at s i m) L))
      (lane_left (L % 8) 12 (omega arith) (omega arith))
      ∙ ap (λ (w : ℕ). pick (is_odd (address_at s i m) (bit (lane_in m.image (L % 8) 12) 5)) w (even_cell (stepped s i m).dst (address_at s i m) L)) (cell_left true)
      ∙ ap (λ (w : ℕ). pick (is_odd (address_at s i m) (bit (lane_in m.image (L % 8) 12) 5)) (pick true (cells_after i (address_at s i m) m.image m.dst L).odd (cells_after i (address_at s i m) m.image m.dst L).even) w) (cell_left false)
      ∙ picked_back _ _ _ _ (cells_after i (address_at s i m) m.image m.dst L) cells_left

  loads_there : loads j.vd (lane_in (stepped s i m).image L) ≡ true
  loads_there =
      loads_true j.vd (lane_in (stepped s i m).image L) low
      (cc (lane_left L 13 l (omega arith), lane_left L 14 l (omega arith), on))
      (ap (λ (w : ℕ). bit w 1) (lane_left L 12 l (omega arith)) ∙ free)

  -- the image after both, LOAD's address being STORE's
  image_is : (stepped s j (stepped s i m)).image ≡ image_at s j (address_at s i m) (stepped s i m).image (stepped s i m).dst
  image_is = moved (stepped s i m) same_address
    where
      moved : (n : Machine) → address_at s j n ≡ address_at s i m → (stepped s j n).image ≡ image_at s j (address_at s i m) n.image n.dst
      moved n e = after_step s j n ∙ ap (λ (a : ℕ). image_at s j a n.image n.dst) e

  word_back : lane_in (stepped s j (stepped s i m)).image L j.vd
      ≡ loaded (resolved s.srcb j.md) (bit (lane_in (stepped s i m).image L 12) 0) (lane_in (stepped s i m).image L j.vd)
      (stored_cell i.md (reg L (lane_in m.image L) i.vd))
  unfolding image_after image_at lane_after
  word_back =
      ap (λ (x : List ℕ). lane_in x L j.vd) image_is
      ∙ lane_of_lanes (lane_after s j (address_at s i m) (stepped s i m).image (stepped s i m).dst) L j.vd l (omega arith)
      ∙ load_leaves j.op s (address_at s i m) j L (lane_in (stepped s i m).image (L % 8)) _ _ (lane_in (stepped s i m).image L) load-op loads_there
      ∙ ap (λ (c : ℕ). loaded (resolved s.srcb j.md) (bit (lane_in (stepped s i m).image L 12) 0) (lane_in (stepped s i m).image L j.vd) c) cell_back

  pub back_again : GivesBack i.md j.md (reg L (lane_in m.image L) i.vd) (lane_in (stepped s j (stepped s i m)).image L j.vd)
  back_again = gives s.srcb i.md j.md _ _ _ _ word_back

pub gives_back : StoredThenLoaded
unfolding StoredThenLoaded steps
gives_back s list k m L store-op load-op low same l on free =
    back_again s (insn_at list k) (insn_at list (suc k)) (steps s list k m) L store-op load-op low same l on free

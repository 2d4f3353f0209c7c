-- LOAD and LOADI over all lanes: masks joined, the places of the cells, and LOAD's two stores made one after the other. Assumes nothing.
use Rattle.std.proofs.Common.{◌≡◌, ℕ, ◌+◌, ◌*◌, ◌/◌, ◌%◌, ◌<◌, ◌≤◌, Bool, true, false, not, ◌&&◌, ◌||◌, eqb, ltb, List, [], ◌∷◌, ◌++◌, length, get_or, set, sym, refl, ap, ◌∙◌, arith, length-set, le-ltb, lt-ltb, ne_eqb}
use lib.Bits.{bit_and, bit_or}
use Rattle.lane.specs.declared.Insn.{Insn}
use Rattle.lane.specs.Words.{pick, bit, flag_of, Lane, Stores, build, lane_config, enabled, after, register_stores}
use Rattle.lane.specs.Load.{place_of, loaded, loads, captures, load_with, load, loadi, immediate}
use Rattle.lane.proofs.Cases.{pick_true, pick_false, pick_lt, has_one}
use Rattle.lane.proofs.Counted.{flag_true, flag_false, load_count}
use Rattle.lane.proofs.Places.{even_place, odd_place, place_is}
use Rattle.lane.proofs.Stores.{get_d_build, upd_other}
use Rattle.runner.specs.Image.{lane_in}
use Rattle.runner.specs.Run.{even_cell, odd_cell}
use Rattle.runner.specs.PrivateRows.{storing, storing_in, row, full, MarksAt}
use Rattle.runner.specs.PrivateLoad.{odd_at, odd_in, is_open, open_in, is_caught, caught_in, cell_of, loaded_at, loaded_only, captured_only}
use Rattle.runner.specs.PrivateSteps.{counted, Room, times}
use Rattle.runner.proofs.Lanes.{storing_same, storing_then, storing_none, lane_storing, Turned, turn_lane, turn_more}
use Rattle.runner.proofs.Filled.{Spread, put_holds, operand, row_same}
use Rattle.runner.proofs.Counts.{counted_same, counted_none, counted_twice, room_after}
use Rattle.runner.proofs.Tallied.{row_marks, times_few}

-- ---- masks

pub full_and : (s t : Bool) → bit_and (full s) (full t) ≡ full (s && t)
unfolding full pick
full_and true true = refl
full_and true false = refl
full_and false true = refl
full_and false false = refl

pub full_or : (s t : Bool) → bit_or (full s) (full t) ≡ full (s || t)
unfolding full pick
full_or true true = refl
full_or true false = refl
full_or false true = refl
full_or false false = refl

-- a mask's lowest bit
full_bit : (t : Bool) → full t % 2 ≡ flag_of t
unfolding full flag_of pick
full_bit true = refl
full_bit false = refl

pub capture_mask : (image opens : List ℕ) (n vd y config : ℕ) (t : Bool) → opens ≡ open_in image → n < 32 → y ≡ full t → t ≡ captures vd config
    → config ≡ lane_in image n lane_config
    → bit_and (get_or opens n 0) y ≡ full (is_open (lane_in image n) && captures vd (lane_in image n lane_config))
unfolding open_in
capture_mask image opens n vd y config t eo l ey et ec =
    rw (operand opens _ eo n l, ey, et, ec) (full_and (is_open (lane_in image n)) (captures vd (lane_in image n lane_config)))

-- ---- cells

-- a list of 64 words, one more
pub pair_more : (g : ℕ → ℕ) (k : ℕ) (words : List ℕ) (v : ℕ) → k < 64 → Spread g 64 64 k words → v ≡ g k → Spread g 64 64 (k + 1) (set words k v)
pair_more g k words v l h e =
    record {
      within = omega arith;
      long = length-set words k v ∙ h.long;
      made = λ p m r. put_holds g words k v p (omega (arith, h.long)) e (λ q. h.made p m (omega arith));
    }

-- one cell of a pair, by a mask
pub cell_made : (dst both odds : List ℕ) (at n v : ℕ) (odd : ℕ → Bool) → n < 32 → both ≡ build 64 (λ k. get_or dst (at + k) 0)
    → odds ≡ row (λ L. full (odd L))
    → ((t : Bool) → get_or odds n 0 ≡ full t → v ≡ pick t (get_or both (2 * n + 1) 0) (get_or both (2 * n) 0))
    → v ≡ cell_of dst at (odd n) n
cell_made dst both odds at n v odd l eb eo p =
    p (odd n) (operand odds _ eo n l) ∙ ap (λ (x : ℕ). pick (odd n) x (get_or both (2 * n) 0)) (from (2 * n + 1) (omega arith))
    ∙ ap (λ (x : ℕ). pick (odd n) (get_or dst (at + (2 * n + 1)) 0) x) (from (2 * n) (omega arith))
  where
    from : (k : ℕ) → k < 64 → get_or both k 0 ≡ get_or dst (at + k) 0
    from k h = ap (λ (x : List ℕ). get_or x k 0) eb ∙ get_d_build 64 (λ k. get_or dst (at + k) 0) k h

-- a lane's pair of cells
pub cell_is : (dst : List ℕ) (a L : ℕ) (odd : Bool) → cell_of dst (64 * (a / 4)) odd L ≡ pick odd (odd_cell dst a L) (even_cell dst a L)
cell_is dst a L odd = cc (next_to ∙ odd_place a L, even_place a L)
  where
    next_to : 64 * (a / 4) + (2 * L + 1) ≡ 64 * (a / 4) + 2 * L + 1
    next_to = omega arith

place_read_is : (a L : ℕ) (odd : Bool) → 64 * (a / 4) + 2 * L + full odd % 2 ≡ place_of a L odd
place_read_is a L odd = ap (λ (n : ℕ). 64 * (a / 4) + 2 * L + n) (full_bit odd) ∙ sym (place_is a L odd)

-- ---- a turn of a loop that stores under a mask

pub masked_turn : (made : ℕ → Lane → Stores) (test : Lane → Bool) (image now next : List ℕ) (n slot word mask : ℕ) → length image ≡ 768 → n < 32
    → Turned made image n now
    → mask ≡ full (test (lane_in image n))
    → ((t : Bool) → mask ≡ full t → next ≡ storing_in now n (pick t ((slot, word) ∷ []) []))
    → pick (test (lane_in now n)) ((slot, word) ∷ []) [] ≡ made n (lane_in now n)
    → Turned made image (n + 1) next
masked_turn made test image now next n slot word mask e l h k p q =
    turn_more made image n now next e l h
    (p (test (lane_in now n)) (k ∙ ap (λ (own : Lane). full (test own)) (sym (turn_lane made image n now e l h)))
    ∙ ap (λ (x : Stores). storing_in now n x) q)

loads_is : (vd : ℕ) (own : Lane) → vd < 8 → is_open own ≡ loads vd own
loads_is vd own h = ap (λ (b : Bool). b && is_open own) (sym (lt-ltb vd 8 h))

-- LOAD's word, the place that it captures, and LOADI's word
pub load_made : (vd m cell w x y : ℕ) (own : Lane) → vd < 8 → w ≡ loaded m (eqb (x % 2) 1) y cell → x ≡ own lane_config → y ≡ own vd
    → pick (is_open own) ((vd, w) ∷ []) [] ≡ loaded_only vd m cell own
unfolding loaded_only
load_made vd m cell w x y own h ew ex ey = cc (loads_is vd own h, has_one x)

pub capture_made : (vd place : ℕ) (own : Lane) → vd < 8
    → pick (is_open own && captures vd (own lane_config)) ((vd + 4, place) ∷ []) [] ≡ captured_only vd place own
unfolding captured_only
capture_made vd place own h =
    ap (λ (b : Bool). pick (b && captures vd (own lane_config)) ((vd + 4, place) ∷ []) []) (loads_is vd own h)

pub loadi_made : (i : Insn) (w x : ℕ) (own : Lane) → i.vd < 8 → w ≡ immediate i.md i.imm x → x ≡ own i.vd
    → pick (enabled own) ((i.vd, w) ∷ []) [] ≡ loadi i own
unfolding loadi
loadi_made i w x own h ew ex = cc stores
  where
    stores : enabled own ≡ (ltb i.vd 8 && enabled own)
    stores = ap (λ (b : Bool). b && enabled own) (sym (lt-ltb i.vd 8 h))

-- ---- mods

-- a mod that has no conversion gives 0, as mod 11 does
pub no_mod : (image x got : List ℕ) (vd m : ℕ) → x ≡ storing image (λ L. loaded_only vd 11 (get_or got L 0 % 65536) (lane_in image L))
    → (m ≡ 1 → ⊥) → (m ≡ 2 → ⊥) → (m ≡ 5 → ⊥) → (m ≡ 6 → ⊥) → (m ≡ 7 → ⊥) → (m ≡ 8 → ⊥) → (m ≡ 9 → ⊥) → (m ≡ 13 → ⊥) → (m ≡ 14 → ⊥) → (m ≡ 15 → ⊥)
    → x ≡ storing image (λ L. loaded_only vd m (get_or got L 0 % 65536) (lane_in image L))
unfolding loaded_only loaded pick
no_mod image x got vd m e n1 n2 n5 n6 n7 n8 n9 n13 n14 n15 = e ∙ storing_same image _ _ (λ L l. as_none (get_or got L 0 % 65536) (lane_in image L))
  where
    as_none : (cell : ℕ) (own : Lane) → loaded_only vd 11 cell own ≡ loaded_only vd m cell own
    as_none cell own =
        simp (ne_eqb m 1 n1, ne_eqb m 2 n2, ne_eqb m 5 n5, ne_eqb m 6 n6, ne_eqb m 7 n7, ne_eqb m 8 n8, ne_eqb m 9 n9, ne_eqb m 13 n13, ne_eqb m 14 n14, ne_eqb m 15 n15)

-- ---- the word, then the place

-- a word stored below slot 8 leaves the slots above it
keeps : (t : Bool) (vd w : ℕ) (own : Lane) (s : ℕ) → vd < 8 → 8 ≤ s → after (pick t ((vd, w) ∷ []) []) own s ≡ own s
unfolding pick after
keeps true vd w own s h k = upd_other own vd w s (λ e. omega arith)
keeps false vd w own s h k = refl

joined : (t u : Bool) (a b : Stores) → pick t a [] ++ pick (t && u) b [] ≡ pick t (a ++ pick u b []) []
unfolding pick
joined true u a b = refl
joined false u a b = refl

module _ (image x : List ℕ) (vd m : ℕ) (cell : ℕ → ℕ) (h : vd < 8) (p : x ≡ storing image (λ L. loaded_only vd m (cell L) (lane_in image L))) where
  slot_kept : (L s : ℕ) → L < 32 → 8 ≤ s → s < 24 → lane_in x L s ≡ lane_in image L s
  unfolding loaded_only
  slot_kept L s l k j =
      ap (λ (z : List ℕ). lane_in z L s) p ∙ lane_storing image (λ L. loaded_only vd m (cell L) (lane_in image L)) L s l j
      ∙ keeps (loads vd (lane_in image L)) vd _ (lane_in image L) s h k

  pub open_kept : open_in image ≡ open_in x
  unfolding open_in
  open_kept =
      row_same _ _
      (λ L l. cc (slot_kept L 12 l (omega arith) (omega arith), slot_kept L 13 l (omega arith) (omega arith), slot_kept L 14 l (omega arith) (omega arith)))

  caught_kept : (L : ℕ) → L < 32 → is_caught vd image L ≡ is_caught vd x L
  caught_kept L l = cc (slot_kept L 12 l (omega arith) (omega arith), slot_kept L 13 l (omega arith) (omega arith), slot_kept L 14 l (omega arith) (omega arith))

  load_both : (y : List ℕ) (place : ℕ → ℕ) → y ≡ storing x (λ L. captured_only vd (place L) (lane_in x L))
      → y ≡ storing image (λ L. load_with vd m (cell L) (place L) (lane_in image L))
  unfolding loaded_only captured_only load_with
  load_both y place q =
      q
      ∙ storing_same x (λ L. captured_only vd (place L) (lane_in x L)) (λ L. captured_only vd (place L) (lane_in image L)) (λ L l. reads L l)
      ∙ ap (λ (z : List ℕ). storing z (λ L. captured_only vd (place L) (lane_in image L))) p
      ∙ storing_then image (λ L. loaded_only vd m (cell L) (lane_in image L)) (λ L. captured_only vd (place L) (lane_in image L))
      ∙ storing_same image _ (λ L. load_with vd m (cell L) (place L) (lane_in image L))
      (λ L l. joined (loads vd (lane_in image L)) (captures vd (lane_in image L lane_config)) _ ((vd + 4, place L) ∷ []))
    where
      reads : (L : ℕ) → L < 32 → captured_only vd (place L) (lane_in x L) ≡ captured_only vd (place L) (lane_in image L)
      reads L l = cc (slot_kept L 12 l (omega arith) (omega arith), slot_kept L 13 l (omega arith) (omega arith), slot_kept L 14 l (omega arith) (omega arith))

-- the same of the cells and masks that were read, `got` and `odds`
module _ (image x dst got odds : List ℕ) (a vd m : ℕ) (h : vd < 8) (small : (k : ℕ) → get_or dst k 0 < 65536) (eo : odds ≡ odd_in image a)
    (eg : got ≡ row (λ L. cell_of dst (64 * (a / 4)) (odd_at image a L) L))
    (p : x ≡ storing image (λ L. loaded_only vd m (get_or got L 0 % 65536) (lane_in image L))) where
  cell_read : (L : ℕ) → L < 32 → get_or got L 0 % 65536 ≡ pick (odd_at image a L) (odd_cell dst a L) (even_cell dst a L)
  cell_read L l =
      ap (λ (x : ℕ). x % 65536) (operand got _ eg L l)
      ∙ under _ (pick_lt (odd_at image a L) _ _ 65536 (small (64 * (a / 4) + (2 * L + 1))) (small (64 * (a / 4) + 2 * L))) ∙ cell_is dst a L (odd_at image a L)
    where
      under : (x : ℕ) → x < 65536 → x % 65536 ≡ x
      under x h = omega arith

  place_read : (L : ℕ) → L < 32 → 64 * (a / 4) + 2 * L + get_or odds L 0 % 2 ≡ place_of a L (odd_at image a L)
  unfolding odd_in
  place_read L l = ap (λ (x : ℕ). 64 * (a / 4) + 2 * L + x % 2) (operand odds _ eo L l) ∙ place_read_is a L (odd_at image a L)

  pub captured : (y : List ℕ) → y ≡ storing x (λ L. captured_only vd (64 * (a / 4) + 2 * L + get_or odds L 0 % 2) (lane_in x L))
      → y ≡ storing image (loaded_at image dst a vd m)
  unfolding loaded_at
  captured y q =
      load_both image x vd m (λ L. get_or got L 0 % 65536) h p y (λ L. 64 * (a / 4) + 2 * L + get_or odds L 0 % 2) q
      ∙ storing_same image _ _ (λ L l. cc (cell_read L l, place_read L l))

  -- and the stores that are counted, of captured places and of words
  pub load_counted : (before between counts : List ℕ) → between ≡ counted before (times 1 (is_caught vd x))
      → counts ≡ counted between (times 1 (λ L. is_open (lane_in image L)))
      → counts ≡ counted before (λ L. register_stores (loaded_at image dst a vd m L))
  unfolding loaded_at
  load_counted before between counts e k =
      k ∙ ap (λ (y : List ℕ). counted y (times 1 (λ L. is_open (lane_in image L)))) e
      ∙ counted_twice before (times 1 (is_caught vd x)) (times 1 (λ L. is_open (lane_in image L)))
      ∙ counted_same before _ _
      (λ L l.
      ap (λ (t : Bool). 1 * flag_of t + 1 * flag_of (is_open (lane_in image L))) (sym (caught_kept image x vd m (λ L. get_or got L 0 % 65536) h p L l))
      ∙ both (is_open (lane_in image L)) (captures vd (lane_in image L lane_config))
      ∙ ap (λ (t : Bool). pick t (1 + flag_of (captures vd (lane_in image L lane_config))) 0) (loads_is vd (lane_in image L) h)
      ∙ sym (load_count vd m _ _ (lane_in image L)))
    where
      turn : (n : ℕ) → 1 * n + 1 * 1 ≡ 1 + n
      turn n = omega arith

      both : (o c : Bool) → 1 * flag_of (o && c) + 1 * flag_of o ≡ pick o (1 + flag_of c) 0
      both true c = ap (λ (n : ℕ). 1 * flag_of c + 1 * n) flag_true ∙ turn (flag_of c) ∙ sym (pick_true true (1 + flag_of c) 0 refl)
      both false c = ap (λ (n : ℕ). 1 * n + 1 * n) flag_false ∙ sym (pick_false false (1 + flag_of c) 0 refl)

-- the rows of masks, and room for the second count
pub open_marks : (image opens : List ℕ) → opens ≡ open_in image → MarksAt 0 (λ L. is_open (lane_in image L)) opens
unfolding open_in
open_marks image opens e = row_marks opens (λ L. is_open (lane_in image L)) (operand opens (λ L. full (is_open (lane_in image L))) e)

pub caught_marks : (vd : ℕ) (image caught : List ℕ) → caught ≡ caught_in vd image → MarksAt 0 (is_caught vd image) caught
unfolding caught_in
caught_marks vd image caught e = row_marks caught (is_caught vd image) (operand caught (λ L. full (is_caught vd image L)) e)

pub room_caught : (vd : ℕ) (image before counts : List ℕ) → Room 24 before → counts ≡ counted before (times 1 (is_caught vd image)) → Room 4 counts
room_caught vd image before counts r e = room_after 24 4 4 before counts (times 1 (is_caught vd image)) (omega arith) r (times_few 1 (is_caught vd image)) e

-- with vd 4 or more nothing is captured
none_caught : (vd config : ℕ) (t : Bool) → 4 ≤ vd → (t && captures vd config) ≡ false
none_caught vd config t h = and_none t (captures vd config) (ap (λ (b : Bool). b && (bit config 2 && bit config 3)) (le-ltb vd 4 h))
  where
    and_none : (s t : Bool) → t ≡ false → (s && t) ≡ false
    and_none true t e = e
    and_none false t e = refl

pub uncaptured : (image : List ℕ) (vd : ℕ) (place : ℕ → ℕ) → length image ≡ 768 → 4 ≤ vd → image ≡ storing image (λ L. captured_only vd (place L) (lane_in image L))
unfolding captured_only
uncaptured image vd place e h =
    sym (storing_none image _ e (λ L l. pick_false _ ((vd + 4, place L) ∷ []) [] (none_caught vd (lane_in image L lane_config) (loads vd (lane_in image L)) h)))

pub none_counted : (image stores : List ℕ) (vd : ℕ) → length stores ≡ 8 → 4 ≤ vd → stores ≡ counted stores (times 1 (is_caught vd image))
none_counted image stores vd e h =
    counted_none stores _ e
    (λ L l. ap (λ (t : Bool). 1 * flag_of t) (none_caught vd (lane_in image L lane_config) (is_open (lane_in image L)) h) ∙ ap (λ (n : ℕ). 1 * n) flag_false)

-- ---- nothing is stored at vd 8 or more

pub no_load : (srcb a : ℕ) (i : Insn) (L : ℕ) (exchanged : Bool) (even odd : ℕ) (own : Lane) → 8 ≤ i.vd → load srcb a i L exchanged even odd own ≡ []
unfolding load load_with
no_load srcb a i L exchanged even odd own h =
    pick_false (loads i.vd own) _ [] (ap (λ (b : Bool). b && (enabled own && not (bit (own lane_config) 1))) (le-ltb i.vd 8 h))

pub no_loadi : (i : Insn) (own : Lane) → 8 ≤ i.vd → loadi i own ≡ []
unfolding loadi
no_loadi i own h = pick_false (ltb i.vd 8 && enabled own) _ [] (ap (λ (b : Bool). b && enabled own) (le-ltb i.vd 8 h))

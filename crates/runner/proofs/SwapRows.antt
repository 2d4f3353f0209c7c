-- SWAP by rows: the masks are those of the rule's tests, and the stores under them are in each lane those of the rule. Assumes nothing.
use Rattle.std.proofs.Common.{◌≡◌, ℕ, ◌+◌, ◌*◌, ◌/◌, ◌%◌, ◌<◌, ◌≤◌, Bool, true, false, not, ◌&&◌, ◌||◌, eqb, ltb, List, [], ◌∷◌, ◌++◌, length, get_or, set, sym, refl, ap, ◌∙◌, append_assoc, arith, length-set, get_or-set_other, get_or-set_same, ltb-true, le-ltb, lt-ltb, eq-eqb, ne_eqb}
use mathlib.Core.Path.{fun_ext}
use native.Mathlib.Decide.{ℕ_discrete}
use mathlib.Core.Bool.{beq, false≢true}
use lib.Bits.{bit_and, bit_or, bit_xor}
use Rattle.lane.specs.declared.Insn.{Insn}
use Rattle.lane.specs.Words.{pick, bit, flag_of, Lane, Stores, reg, upd, after, enabled, register_stores}
use Rattle.lane.specs.Swap.{compared, is_below, below, plain_swap, index_swap, index_of, swap_with, swap, mask_of, swaps}
use Rattle.lane.proofs.Cases.{pick_true, pick_false}
use Rattle.lane.proofs.Ranks.{swaps_is}
use Rattle.lane.proofs.Counted.{flag_small, flag_false, under_count, none_count, stores_append}
use Rattle.lane.proofs.Tables.{and_left}
use Rattle.lane.proofs.Stores.{length_build, get_d_build, upd_same, upd_other, after_append}
use Rattle.runner.specs.Image.{lane_in}
use Rattle.runner.specs.PrivateRows.{storing, storing_in, row, full, Enabled, marked, Masks}
use Rattle.runner.specs.PrivateSwap.{swaps_by, part, mask_rows, NoIndex, stored_under, exchanged, masks_at, stored_to, stored_both, count_to, count_exchanged, swap_count}
use Rattle.runner.specs.Run.{over_column}
use Rattle.runner.specs.PrivateSteps.{counted, Room, times}
use Rattle.runner.proofs.Masks.{marks, masks_of}
use Rattle.runner.proofs.Lanes.{split, same_lanes, own_lanes, storing_same, storing_then, lane_storing, storing_none, in_then}
use Rattle.runner.proofs.Filled.{Spread, none_below, spread_start, put_holds, operand}
use Rattle.runner.proofs.Enabled.{quiet_enabled}
use Rattle.runner.proofs.Quick.{no_or}
use Rattle.runner.proofs.Quiet.{quiet_swap}
use Rattle.runner.proofs.Operands.{reg_low}
use Rattle.runner.proofs.Counts.{counted_same, counted_none, counted_twice, room_after}
use Rattle.runner.proofs.Tallied.{times_one, times_few}

-- ---- masks

both_full : (s t : Bool) → bit_and (full s) (full t) ≡ full (s && t)
unfolding full pick
both_full true true = refl
both_full true false = refl
both_full false true = refl
both_full false false = refl

rest_full : (s t : Bool) → bit_xor (full s) (full (s && t)) ≡ full (s && not t)
unfolding full pick
rest_full true true = refl
rest_full true false = refl
rest_full false true = refl
rest_full false false = refl

-- the mask of a lane, m being the mask of its tests but for `enabled`
pub mask_made : (go m c d : ℕ) (below always acting minimum reversed e : Bool) → below ≡ is_below (compared c d)
    → m ≡ full (acting && (always || not (beq reversed (beq minimum below))))
    → go ≡ full e
    → bit_and go m ≡ full ((acting && e) && swaps always minimum reversed c d)
mask_made go m c d below always acting minimum reversed e b r g =
    ap (λ (x : ℕ). bit_and x m) g
    ∙ ap (λ (x : ℕ). bit_and (full e) x) (r ∙ ap (λ (b : Bool). full (acting && (always || not (beq reversed (beq minimum b))))) b)
    ∙ both_full e _
    ∙ ap full (turn e acting _)
    ∙ ap (λ (b : Bool). full ((acting && e) && b)) (swaps_is always minimum reversed c d)
  where
    turn : (e a s : Bool) → (e && (a && s)) ≡ ((a && e) && s)
    turn true true s = refl
    turn true false s = refl
    turn false true s = refl
    turn false false s = refl

-- three rows of 32, after a first row that stands
module _ (g : ℕ → ℕ) (n : ℕ) (words : List ℕ) (a b c : ℕ) (l : n < 32) (h : Spread g 32 128 n words) (first : (k : ℕ) → k < 32 → get_or words k 0 ≡ g k) where
  three_more : a ≡ g (32 + n) → b ≡ g (64 + n) → c ≡ g (96 + n) → Spread g 32 128 (n + 1) (set (set (set words (32 + n) a) (64 + n) b) (96 + n) c)
  three_more ea eb ec = record { within = omega arith; long = simp length-set h.long; made = at }
    where
      stood : (p : ℕ) → p < 128 → p % 32 < n + 1 → (p ≡ 32 + n → ⊥) → (p ≡ 64 + n → ⊥) → (p ≡ 96 + n → ⊥) → get_or words p 0 ≡ g p
      stood p k r na nb nc = split p 32 (λ m. h.made p k (omega arith)) (λ m. first p m)

      at : (p : ℕ) → p < 128 → p % 32 < n + 1 → get_or (set (set (set words (32 + n) a) (64 + n) b) (96 + n) c) p 0 ≡ g p
      at p k r =
          put_holds g (set (set words (32 + n) a) (64 + n) b) (96 + n) c p (simp length-set (omega (arith, h.long))) ec
          (λ nc.
          put_holds g (set words (32 + n) a) (64 + n) b p (simp length-set (omega (arith, h.long))) eb
          (λ nb. put_holds g words (32 + n) a p (omega (arith, h.long)) ea (λ na. stood p k r na nb nc)))

  first_stays : (k : ℕ) → k < 32 → get_or (set (set (set words (32 + n) a) (64 + n) b) (96 + n) c) k 0 ≡ g k
  first_stays k m =
      get_or-set_other (set (set words (32 + n) a) (64 + n) b) (96 + n) k c 0 (λ e. omega arith)
      ∙ get_or-set_other (set words (32 + n) a) (64 + n) k b 0 (λ e. omega arith) ∙ get_or-set_other words (32 + n) k a 0 (λ e. omega arith) ∙ first k m

module _ (E T ix : ℕ → Bool) where
  -- the word of the rows at k
  abbrev pub mask_in : ℕ → ℕ
  mask_in k = full (part (k / 32) (E (k % 32)) (T (k % 32)) (ix (k % 32)))

  mask_in_lem : (q L k : ℕ) → L < 32 → k ≡ 32 * q + L → full (part q (E L) (T L) (ix L)) ≡ mask_in k
  mask_in_lem q L k l e = go (k / 32) (k % 32) (omega arith) (omega arith)
    where
      go : (a b : ℕ) → q ≡ a → L ≡ b → full (part q (E L) (T L) (ix L)) ≡ full (part a (E b) (T b) (ix b))
      go a b p r = cc

  -- what holds after n turns
  pub record Marked (n : ℕ) (words : List ℕ) : Type 0 where
    pub spread : Spread mask_in 32 128 n words
    pub first : (k : ℕ) → k < 32 → get_or words k 0 ≡ mask_in k

  pub marked_start : (words : List ℕ) → length words ≡ 128 → ((k : ℕ) → k < 32 → get_or words k 0 ≡ full (E k)) → Marked 0 words
  unfolding part pick
  marked_start words e h = record { spread = spread_start mask_in 32 128 words e; first = λ k l. h k l ∙ mask_in_lem 0 k k l (omega arith) }

  pub marked_first : (n : ℕ) (words : List ℕ) → Marked n words → (k : ℕ) → k < 32 → get_or words k 0 ≡ full (E k)
  unfolding part pick
  marked_first n words h k l = h.first k l ∙ sym (mask_in_lem 0 k k l (omega arith))

  -- a turn's three words
  pub masks_more : (n : ℕ) (words : List ℕ) (w m : ℕ) → n < 32 → Marked n words → w ≡ full (T n) → m ≡ full (ix n)
      → Marked (n + 1) (set (set (set words (32 + n) w) (64 + n) (bit_xor w (bit_and w m))) (96 + n) (bit_and w m))
  unfolding part pick
  masks_more n words w m l h e k =
      record {
        spread =
            three_more mask_in n words w (bit_xor w (bit_and w m)) (bit_and w m) l h.spread h.first (e ∙ mask_in_lem 1 n (32 + n) l (omega arith))
            (rw (indexed, e) (rest_full (T n) (ix n)) ∙ mask_in_lem 2 n (64 + n) l (omega arith))
            (indexed ∙ mask_in_lem 3 n (96 + n) l (omega arith));
        first = first_stays mask_in n words w (bit_xor w (bit_and w m)) (bit_and w m) l h.spread h.first;
      }
    where
      indexed : bit_and w m ≡ full (T n && ix n)
      indexed = rw (e, k) (both_full (T n) (ix n))

  module _ (t : List ℕ) (e : t ≡ mask_rows E T ix) where
    mask_at : (k : ℕ) → k < 128 → get_or t k 0 ≡ mask_in k
    unfolding mask_rows
    mask_at k l = ap (λ (x : List ℕ). get_or x k 0) e ∙ get_d_build 128 mask_in k l

    marked_at : (q L k : ℕ) → q < 4 → L < 32 → k ≡ 32 * q + L → marked t k ≡ part q (E L) (T L) (ix L)
    marked_at q L k hq l p = ap (λ (x : ℕ). eqb x 0xFFFFFFFF) (mask_at k (omega arith) ∙ sym (mask_in_lem q L k l p)) ∙ marks _

    pub are_masks : Masks 128 t
    are_masks = masks_of 128 t (λ k. part (k / 32) (E (k % 32)) (T (k % 32)) (ix (k % 32))) mask_at

-- the first row is as it was
still_enabled : (image t : List ℕ) (T ix : ℕ → Bool) → t ≡ mask_rows (λ L. enabled (lane_in image L)) T ix → Enabled t image
unfolding mask_rows part pick
still_enabled image t T ix e =
    record {
      size = ap length e ∙ length_build 128 _;
      mask_is = λ k l. mask_at (λ L. enabled (lane_in image L)) T ix t e k (omega arith) ∙ sym (mask_in_lem (λ L. enabled (lane_in image L)) T ix 0 k k l (omega arith));
    }

-- where the union of the last row is 0 after n turns, so is each of its words
pub record NoneSeen (seen n : ℕ) (words : List ℕ) : Type 0 where
  pub zeros : seen ≡ 0 → (k : ℕ) → k < n → get_or words (96 + k) 0 ≡ 0

pub none_start : (words : List ℕ) → NoneSeen 0 0 words
none_start words = record { zeros = λ e k l. absurd (none_below k l) }

pub none_more : (seen n : ℕ) (words : List ℕ) (a b c : ℕ) → n < 32 → length words ≡ 128 → NoneSeen seen n words
    → NoneSeen (bit_or seen c) (n + 1) (set (set (set words (32 + n) a) (64 + n) b) (96 + n) c)
none_more seen n words a b c l e h = record { zeros = λ z k m. by k m (no_or seen c z) (ℕ_discrete k n) }
  where
    by : (k : ℕ) → k < n + 1 → (seen ≡ 0) × (c ≡ 0) → Dec (k ≡ n) → get_or (set (set (set words (32 + n) a) (64 + n) b) (96 + n) c) (96 + k) 0 ≡ 0
    by k m both (yes q) =
        ap (λ (j : ℕ). get_or (set (set (set words (32 + n) a) (64 + n) b) (96 + n) c) (96 + j) 0) q
        ∙ get_or-set_same (set (set words (32 + n) a) (64 + n) b) (96 + n) c 0 (simp length-set (omega (arith, e))) ∙ both.1
    by k m both (no q) =
        get_or-set_other (set (set words (32 + n) a) (64 + n) b) (96 + n) (96 + k) c 0 (λ r. q (omega arith))
        ∙ get_or-set_other (set words (32 + n) a) (64 + n) (96 + k) b 0 (λ r. omega arith)
        ∙ get_or-set_other words (32 + n) (96 + k) a 0 (λ r. omega arith) ∙ h.zeros both.0 k (omega arith)

pub none_end : (seen n : ℕ) (words : List ℕ) → 32 ≤ n → NoneSeen seen n words → not (eqb seen 0) ≡ false → NoIndex words
unfolding NoIndex
none_end seen n words l h z k m = h.zeros (grind arith) k (omega arith)

-- ---- stores under masks

-- stores in one lane that come to the same
in_same : (image : List ℕ) (n : ℕ) (a b : Stores) → after a (lane_in image n) ≡ after b (lane_in image n) → storing_in image n a ≡ storing_in image n b
unfolding storing_in storing after pick
in_same image n a b h =
    same_lanes (λ L. after (pick (eqb L n) a []) (lane_in image L)) (λ L. after (pick (eqb L n) b []) (lane_in image L)) (λ L s hL hs. at L s (ℕ_discrete L n))
  where
    at : (L s : ℕ) → Dec (L ≡ n) → after (pick (eqb L n) a []) (lane_in image L) s ≡ after (pick (eqb L n) b []) (lane_in image L) s
    at L s (yes q) = simp (eq-eqb L n q) (rw q (ap (λ (f : Lane). f s) h))
    at L s (no q) = simp (ne_eqb L n q)

-- a word stored again where it stands
upd_held : (own : Lane) (s v : ℕ) → own s ≡ v → upd own s v ≡ own
upd_held own s v e = fun_ext (λ k. at k (ℕ_discrete k s))
  where
    at : (k : ℕ) → Dec (k ≡ s) → upd own s v k ≡ own k
    at k (yes q) = rw q (upd_same own s v ∙ sym e)
    at k (no q) = upd_other own s v k q

chosen_first : (p q : ℕ) (s r : Bool) (own : Lane) → (p ≡ q → ⊥)
    → after ((p, pick s (own q) (own p)) ∷ (q, pick r (own p) (own q)) ∷ []) own ≡ after (exchanged p q s r own) own
unfolding exchanged pick after
chosen_first p q true true own h = refl
chosen_first p q true false own h = upd_held (upd own p (own q)) q (own q) (upd_other own p (own q) q (λ e. h (sym e)))
chosen_first p q false true own h = ap (λ (f : Lane). upd f q (own p)) (upd_held own p (own p) refl)
chosen_first p q false false own h = ap (λ (f : Lane). upd f q (own q)) (upd_held own p (own p) refl) ∙ upd_held own q (own q) refl

-- one lane's part of an exchange, both words chosen before the first store
pub exchange_in : (image x y : List ℕ) (n p q a b w v f g : ℕ) (t : List ℕ) → Masks 128 t → (p ≡ q → ⊥) → a < 128 → b < 128
    → w ≡ lane_in image n p → v ≡ lane_in image n q
    → ((s : Bool) → get_or t a 0 ≡ full s → f ≡ pick s v w)
    → ((s : Bool) → get_or t b 0 ≡ full s → g ≡ pick s w v)
    → ((s : Bool) → 0xFFFFFFFF ≡ full s → x ≡ storing_in image n (pick s ((p, f) ∷ []) []))
    → ((s : Bool) → 0xFFFFFFFF ≡ full s → y ≡ storing_in x n (pick s ((q, g) ∷ []) []))
    → y ≡ storing_in image n (exchanged p q (marked t a) (marked t b) (lane_in image n))
unfolding Masks full pick
exchange_in image x y n p q a b w v f g t m h ha hb ew ev ef eg ex ey =
    in_then image x y n ((p, f) ∷ []) ((q, g) ∷ []) (ex true refl) (ey true refl)
    ∙ rw (ef (marked t a) (m a ha), eg (marked t b) (m b hb), ew, ev) (in_same image n _ _ (chosen_first p q (marked t a) (marked t b) (lane_in image n) h))

pub store_in : (image x words : List ℕ) (n p a : ℕ) (t : List ℕ) → Masks 128 t → a < 128
    → ((s : Bool) → get_or t a 0 ≡ full s → x ≡ storing_in image n (pick s ((p, get_or words n 0) ∷ []) []))
    → x ≡ storing_in image n (stored_under p (marked t a) (get_or words n 0))
unfolding Masks
store_in image x words n p a t m ha f = f (marked t a) (m a ha)

ends : (x : Stores) → x ++ [] ≡ x
ends [] = refl
ends (y ∷ x) = ap (λ (z : Stores). y ∷ z) (ends x)

-- the store to r, below 8 and from 8 on
stored_low : (r a : ℕ) (t : List ℕ) (L w : ℕ) → r < 8 → a ≡ masks_at r → stored_under r (marked t (a + L)) w ≡ stored_to r t L w
unfolding stored_to
stored_low r a t L w h e =
    ap (λ (k : ℕ). stored_under r (marked t (k + L)) w) e ∙ sym (pick_true (ltb r 8) (stored_under r (marked t (masks_at r + L)) w) [] (lt-ltb r 8 h))

stored_none : (r : ℕ) (t : List ℕ) (L w : ℕ) → 8 ≤ r → stored_to r t L w ≡ []
unfolding stored_to
stored_none r t L w h = pick_false (ltb r 8) (stored_under r (marked t (masks_at r + L)) w) [] (le-ltb r 8 h)

-- the stores to vc and vd, by which of them lie below 8
module _ (image x t : List ℕ) (vc vd : ℕ) where
  pub both_low : (a b : ℕ) → vc < 8 → vd < 8 → a ≡ masks_at vc → b ≡ masks_at vd
      → x ≡ storing image (λ L. exchanged vc vd (marked t (a + L)) (marked t (b + L)) (lane_in image L))
      → x ≡ storing image (λ L. stored_both vc vd t L (lane_in image L))
  unfolding exchanged stored_both
  both_low a b hc hd ea eb p =
      p
      ∙ storing_same image _ _
      (λ L l.
      ap (λ (y : Stores). y ++ stored_under vd (marked t (b + L)) (lane_in image L vc)) (stored_low vc a t L (lane_in image L vd) hc ea)
      ∙ ap (λ (y : Stores). stored_to vc t L (lane_in image L vd) ++ y) (stored_low vd b t L (lane_in image L vc) hd eb)
      ∙ rw (reg_low L (lane_in image L) vc hc, reg_low L (lane_in image L) vd hd))

  pub first_low : (a : ℕ) (d : List ℕ) → vc < 8 → 8 ≤ vd → a ≡ masks_at vc → d ≡ row (λ L. reg L (lane_in image L) vd)
      → x ≡ storing image (λ L. stored_under vc (marked t (a + L)) (get_or d L 0))
      → x ≡ storing image (λ L. stored_both vc vd t L (lane_in image L))
  unfolding stored_both
  first_low a d hc hd ea ed p =
      p
      ∙ storing_same image _ _
      (λ L l.
      ap (λ (w : ℕ). stored_under vc (marked t (a + L)) w) (operand d _ ed L l)
      ∙ stored_low vc a t L (reg L (lane_in image L) vd) hc ea
      ∙ sym (ap (λ (y : Stores). stored_to vc t L (reg L (lane_in image L) vd) ++ y) (stored_none vd t L (reg L (lane_in image L) vc) hd) ∙ ends _))

  pub second_low : (b : ℕ) (c : List ℕ) → 8 ≤ vc → vd < 8 → b ≡ masks_at vd → c ≡ row (λ L. reg L (lane_in image L) vc)
      → x ≡ storing image (λ L. stored_under vd (marked t (b + L)) (get_or c L 0))
      → x ≡ storing image (λ L. stored_both vc vd t L (lane_in image L))
  unfolding stored_both
  second_low b c hc hd eb ec p =
      p
      ∙ storing_same image _ _
      (λ L l.
      ap (λ (w : ℕ). stored_under vd (marked t (b + L)) w) (operand c _ ec L l)
      ∙ stored_low vd b t L (reg L (lane_in image L) vc) hd eb
      ∙ sym (ap (λ (y : Stores). y ++ stored_to vd t L (reg L (lane_in image L) vc)) (stored_none vc t L (reg L (lane_in image L) vd) hc)))

  pub none_low : length image ≡ 768 → 8 ≤ vc → 8 ≤ vd → image ≡ storing image (λ L. stored_both vc vd t L (lane_in image L))
  unfolding stored_both
  none_low e hc hd =
      sym
      (storing_none image _ e
      (λ L l.
      ap (λ (y : Stores). y ++ stored_to vd t L (reg L (lane_in image L) vc)) (stored_none vc t L (reg L (lane_in image L) vd) hc)
      ∙ stored_none vd t L (reg L (lane_in image L) vc) hd))

-- ---- the rows of masks of an instruction

module _ (image c d t : List ℕ) where
  abbrev pub rows_by : Bool → Bool → ℕ → List ℕ
  rows_by always free mask =
      mask_rows (λ L. enabled (lane_in image L)) (λ L. swaps_by always free mask L (get_or c L 0) (get_or d L 0) (lane_in image L)) (λ L. bit (lane_in image L 12) 2)

  -- under mod 0 no mask is asked

  pub rows_by_lem : (a b f g : Bool) (m k : ℕ) → a ≡ b → f ≡ g → m ≡ k → t ≡ rows_by a f m → t ≡ rows_by b g k
  rows_by_lem a b f g m k p q r e =
      e ∙ ap (λ (x : Bool). rows_by x f m) p ∙ ap (λ (x : Bool). rows_by b x m) q ∙ ap (λ (x : ℕ). rows_by b g x) r

-- ---- a lane that swaps

-- the store to r, where the lane swaps (t) with bit 2 set or clear (ix)
abbrev stores : Bool → Bool → ℕ → ℕ → Stores
stores t ix r w = pick t (pick ix (below 4 r w) (below 8 r w)) []

below_in : (n r w : ℕ) → r < n → below n r w ≡ (r, w) ∷ []
unfolding below
below_in n r w h = pick_true (ltb r n) ((r, w) ∷ []) [] (lt-ltb r n h)

below_out : (n r w : ℕ) → n ≤ r → below n r w ≡ []
unfolding below
below_out n r w h = pick_false (ltb r n) ((r, w) ∷ []) [] (le-ltb r n h)

stores_low : (t ix : Bool) (r w : ℕ) → r < 4 → stored_under r t w ≡ stores t ix r w
unfolding pick
stores_low true true r w h = sym (below_in 4 r w h)
stores_low true false r w h = sym (below_in 8 r w (omega arith))
stores_low false ix r w h = refl

stores_middle : (t ix : Bool) (r w : ℕ) → 4 ≤ r → r < 8 → stored_under r (t && not ix) w ≡ stores t ix r w
unfolding pick
stores_middle true true r w h k = sym (below_out 4 r w h)
stores_middle true false r w h k = sym (below_in 8 r w k)
stores_middle false ix r w h k = refl

stores_high : (t ix : Bool) (r w : ℕ) → 8 ≤ r → [] ≡ stores t ix r w
unfolding pick
stores_high true true r w h = sym (below_out 4 r w (omega arith))
stores_high true false r w h = sym (below_out 8 r w h)
stores_high false ix r w h = refl

lane_stores : (t ix : Bool) (vc vd c d x y : ℕ)
    → (stores t ix vc d ++ stores t ix vd c) ++ (stored_under (index_of vc) (t && ix) y ++ stored_under (index_of vd) (t && ix) x)
    ≡ pick t (pick ix (index_swap vc vd c d x y) (plain_swap vc vd c d)) []
unfolding pick index_swap plain_swap
lane_stores true true vc vd c d x y = append_assoc (below 4 vc d) (below 4 vd c) ((index_of vc, y) ∷ (index_of vd, x) ∷ [])
lane_stores true false vc vd c d x y = ends (below 8 vc d ++ below 8 vd c)
lane_stores false ix vc vd c d x y = refl

-- a store below 4 leaves the index registers
below_keeps : (r w : ℕ) (own : Lane) (s : ℕ) → 4 ≤ s → after (below 4 r w) own s ≡ own s
unfolding below after pick
below_keeps r w own s h = split r 4 (λ k. simp (le-ltb r 4 k)) (λ k. simp (lt-ltb r 4 k) (upd_other own r w s (λ e. omega arith)))

-- so in a lane that exchanges them they are as they were
exchanged_kept : (vc vd c d : ℕ) (own now : Lane) (t ix : Bool)
    → ((s : ℕ) → 4 ≤ s → s < 8 → now s ≡ after (stores t ix vc d ++ stores t ix vd c) own s)
    → exchanged (index_of vc) (index_of vd) (t && ix) (t && ix) now ≡ exchanged (index_of vc) (index_of vd) (t && ix) (t && ix) own
unfolding exchanged pick
exchanged_kept vc vd c d own now true true p =
    rw (kept (index_of vc) (omega arith) (omega arith), kept (index_of vd) (omega arith) (omega arith))
  where
    kept : (s : ℕ) → 4 ≤ s → s < 8 → now s ≡ own s
    kept s h k =
        p s h k ∙ ap (λ (f : Lane). f s) (sym (after_append (below 4 vc d) (below 4 vd c) own)) ∙ below_keeps vd c (after (below 4 vc d) own) s h
        ∙ below_keeps vc d own s h
exchanged_kept vc vd c d own now true false p = refl
exchanged_kept vc vd c d own now false ix p = refl

-- ---- all lanes

module _ (image t : List ℕ) (i : Insn) (E T ix : ℕ → Bool) (e : t ≡ mask_rows E T ix) where
  by_masks : (r L w : ℕ) → L < 32 → stored_to r t L w ≡ stores (T L) (ix L) r w
  unfolding stored_to masks_at part pick
  by_masks r L w l =
      split r 8 (λ h. stored_none r t L w h ∙ stores_high (T L) (ix L) r w h)
      (λ h.
      split r 4
      (λ k.
      sym (stored_low r 64 t L w h (sym (pick_false (ltb r 4) 32 64 (le-ltb r 4 k))))
      ∙ ap (λ (b : Bool). stored_under r b w) (marked_at E T ix t e 2 L (64 + L) (omega arith) l (omega arith))
      ∙ stores_middle (T L) (ix L) r w k h)
      (λ k.
      sym (stored_low r 32 t L w h (sym (pick_true (ltb r 4) 32 64 (lt-ltb r 4 k))))
      ∙ ap (λ (b : Bool). stored_under r b w) (marked_at E T ix t e 1 L (32 + L) (omega arith) l (omega arith))
      ∙ stores_low (T L) (ix L) r w k))

  by_index : (L : ℕ) → L < 32 → marked t (96 + L) ≡ (T L && ix L)
  unfolding part pick
  by_index L l = marked_at E T ix t e 3 L (96 + L) (omega arith) l (omega arith)

  abbrev own : ℕ → Lane
  own L = lane_in image L

  abbrev C : ℕ → ℕ
  C L = reg L (lane_in image L) i.vc

  abbrev D : ℕ → ℕ
  D L = reg L (lane_in image L) i.vd

  abbrev exchanged_in : List ℕ → ℕ → Stores
  exchanged_in y L = exchanged (index_of i.vc) (index_of i.vd) (T L && ix L) (T L && ix L) (lane_in y L)

  both : (y : List ℕ) → y ≡ storing image (λ L. stored_both i.vc i.vd t L (lane_in image L))
      → y ≡ storing image (λ L. stores (T L) (ix L) i.vc (D L) ++ stores (T L) (ix L) i.vd (C L))
  unfolding stored_both
  both y h =
      h
      ∙ storing_same image _ _
      (λ L l.
      ap (λ (z : Stores). z ++ stored_to i.vd t L (C L)) (by_masks i.vc L (D L) l)
      ∙ ap (λ (z : Stores). stores (T L) (ix L) i.vc (D L) ++ z) (by_masks i.vd L (C L) l))

  made : (y z : List ℕ)
      → y ≡ storing image (λ L. stores (T L) (ix L) i.vc (D L) ++ stores (T L) (ix L) i.vd (C L))
      → z ≡ storing y (exchanged_in y)
      → z ≡ storing image (λ L. pick (T L) (pick (ix L) (index_swap i.vc i.vd (C L) (D L) (own L (index_of i.vc)) (own L (index_of i.vd))) (plain_swap i.vc i.vd (C L) (D L))) [])
  unfolding exchanged
  made y z h k =
      k
      ∙ storing_same y _ (exchanged_in image)
      (λ L l.
      exchanged_kept i.vc i.vd (C L) (D L) (lane_in image L) (lane_in y L) (T L) (ix L)
      (λ s a b. ap (λ (w : List ℕ). lane_in w L s) h ∙ lane_storing image _ L s l (omega arith)))
      ∙ ap (λ (w : List ℕ). storing w (exchanged_in image)) h
      ∙ storing_then image _ _
      ∙ storing_same image _ _
      (λ L l. lane_stores (T L) (ix L) i.vc i.vd (C L) (D L) (own L (index_of i.vc)) (own L (index_of i.vd)))

  -- the stores that are counted by the masks are those that are made
  count_to_lem : (r L w : ℕ) → L < 32 → count_to r t L ≡ register_stores (stores (T L) (ix L) r w)
  unfolding stored_to
  count_to_lem r L w l = sym (ap register_stores (sym (by_masks r L w l)) ∙ below_eight (ltb r 8) (marked t (masks_at r + L)) (ltb-true r 8))
    where
      below_eight : (s b : Bool) → (s ≡ true → r < 8) → register_stores (pick s (stored_under r b w) []) ≡ flag_of (s && b)
      below_eight true b h =
          ap register_stores (pick_true true (stored_under r b w) [] refl) ∙ under_count b r w (let k : r < 8 = h refl in omega arith)
      below_eight false b h = ap register_stores (pick_false false (stored_under r b w) [] refl) ∙ none_count ∙ sym flag_false

  count_exchanged_lem : (L : ℕ) → L < 32 → count_exchanged t L ≡ register_stores (exchanged_in image L)
  unfolding exchanged
  count_exchanged_lem L l =
      ap (λ (b : Bool). 2 * flag_of b) (by_index L l) ∙ twice (flag_of (T L && ix L))
      ∙ sym
      (stores_append (stored_under (index_of i.vc) (T L && ix L) (own L (index_of i.vd))) (stored_under (index_of i.vd) (T L && ix L) (own L (index_of i.vc)))
      ∙ ap (λ (n : ℕ). n + register_stores (stored_under (index_of i.vd) (T L && ix L) (own L (index_of i.vc))))
      (under_count (T L && ix L) (index_of i.vc) (own L (index_of i.vd)) (omega arith))
      ∙ ap (λ (n : ℕ). flag_of (T L && ix L) + n) (under_count (T L && ix L) (index_of i.vd) (own L (index_of i.vc)) (omega arith)))
    where
      twice : (n : ℕ) → 2 * n ≡ n + n
      twice n = omega arith

  swap_counts : (L : ℕ) → L < 32
      → swap_count i t L
      ≡ register_stores (pick (T L) (pick (ix L) (index_swap i.vc i.vd (C L) (D L) (own L (index_of i.vc)) (own L (index_of i.vd))) (plain_swap i.vc i.vd (C L) (D L))) [])
  unfolding exchanged
  swap_counts L l =
      cc (count_exchanged_lem L l, count_to_lem i.vc L (D L) l, count_to_lem i.vd L (C L) l)
      ∙ turned (register_stores (exchanged_in image L)) (register_stores (stores (T L) (ix L) i.vc (D L))) (register_stores (stores (T L) (ix L) i.vd (C L)))
      ∙ sym
      (stores_append (stores (T L) (ix L) i.vc (D L) ++ stores (T L) (ix L) i.vd (C L)) (exchanged_in image L)
      ∙ ap (λ (n : ℕ). n + register_stores (exchanged_in image L)) (stores_append (stores (T L) (ix L) i.vc (D L)) (stores (T L) (ix L) i.vd (C L))))
      ∙ ap register_stores (lane_stores (T L) (ix L) i.vc i.vd (C L) (D L) (own L (index_of i.vc)) (own L (index_of i.vd)))
    where
      turned : (x y z : ℕ) → x + y + z ≡ y + z + x
      turned x y z = omega arith

-- SWAP, from the rows of operands and masks
module _ (image c d t : List ℕ) (i : Insn) (ec : c ≡ row (λ L. reg L (lane_in image L) i.vc)) (ed : d ≡ row (λ L. reg L (lane_in image L) i.vd))
    (e : t ≡ rows_by image c d t (eqb i.md 0) (ltb i.vd 12) (mask_of i.md)) where
  E : ℕ → Bool
  E L = enabled (lane_in image L)

  T : ℕ → Bool
  T L = swaps_by (eqb i.md 0) (ltb i.vd 12) (mask_of i.md) L (get_or c L 0) (get_or d L 0) (lane_in image L)

  ix : ℕ → Bool
  ix L = bit (lane_in image L 12) 2

  pub swap_made : (y z : List ℕ)
      → y ≡ storing image (λ L. stored_both i.vc i.vd t L (lane_in image L))
      → z ≡ storing y (λ L. exchanged (index_of i.vc) (index_of i.vd) (marked t (96 + L)) (marked t (96 + L)) (lane_in y L))
      → z ≡ storing image (λ L. swap i L (lane_in image L))
  unfolding E T ix swap swap_with
  swap_made y z h k =
      made image t i E T ix e y z (both image t i E T ix e y h)
      (k ∙ storing_same y _ _ (λ L l. ap (λ (b : Bool). exchanged (index_of i.vc) (index_of i.vd) b b (lane_in y L)) (by_index image t i E T ix e L l)))
      ∙ storing_same image _ _ (λ L l. rw (operand c _ ec L l, operand d _ ed L l))

  -- and so are the counts
  pub swap_counted : (before counts : List ℕ) → counts ≡ counted before (swap_count i t) → counts ≡ counted before (λ L. register_stores (swap i L (lane_in image L)))
  unfolding E T ix swap swap_with
  swap_counted before counts h =
      h ∙ counted_same before _ _ (λ L l. swap_counts image t i E T ix e L l ∙ rw (operand c _ ec L l, operand d _ ed L l))

  -- and the masks of the enabled lanes are as they were
  pub swap_enabled : (z : List ℕ) → z ≡ storing image (λ L. swap i L (lane_in image L)) → Enabled t z
  swap_enabled z p = quiet_enabled t image z _ (λ L l. quiet_swap i L (lane_in image L)) (still_enabled image t _ _ e) p

-- ---- a register stored to itself

-- stores that leave each lane as it is leave the image
unchanged : (image : List ℕ) (made : ℕ → Stores) → length image ≡ 768 → ((L : ℕ) → L < 32 → after (made L) (lane_in image L) ≡ lane_in image L) → image ≡ storing image made
unfolding storing
unchanged image made e h =
    sym (same_lanes (λ L. after (made L) (lane_in image L)) (lane_in image) (λ L s hL hs. ap (λ (f : Lane). f s) (h L hL)) ∙ own_lanes image e)

-- a lane after two parts of its stores that each leave it
after_both : (a b : Stores) (own : Lane) → after a own ≡ own → after b own ≡ own → after (a ++ b) own ≡ own
after_both a b own p q = sym (after_append a b own) ∙ ap (λ (f : Lane). after b f) p ∙ q

under_own : (s : ℕ) (t : Bool) (own : Lane) → after (stored_under s t (own s)) own ≡ own
unfolding pick after
under_own s true own = upd_held own s (own s) refl
under_own s false own = refl

below_own : (n r L : ℕ) (own : Lane) → n ≤ 8 → after (below n r (reg L own r)) own ≡ own
unfolding after
below_own n r L own h =
    split r n (λ k. ap (λ (x : Stores). after x own) (below_out n r (reg L own r) k))
    (λ k. ap (λ (x : Stores). after x own) (below_in n r (reg L own r) k) ∙ rw (reg_low L own r (omega arith)) (upd_held own r (own r) refl))

lane_own : (t ix : Bool) (vc vd L : ℕ) (own : Lane) → vc ≡ vd
    → after (pick t (pick ix (index_swap vc vd (reg L own vc) (reg L own vd) (own (index_of vc)) (own (index_of vd))) (plain_swap vc vd (reg L own vc) (reg L own vd))) []) own ≡ own
unfolding pick index_swap plain_swap after
lane_own true true vc vd L own e =
    rw e
    (after_both (below 4 vd (reg L own vd)) _ own (below_own 4 vd L own (omega arith))
    (after_both (below 4 vd (reg L own vd)) _ own (below_own 4 vd L own (omega arith))
    (after_both ((index_of vd, own (index_of vd)) ∷ []) ((index_of vd, own (index_of vd)) ∷ []) own (upd_held own (index_of vd) (own (index_of vd)) refl) (upd_held own (index_of vd) (own (index_of vd)) refl))))
lane_own true false vc vd L own e =
    rw e
    (after_both (below 8 vd (reg L own vd)) (below 8 vd (reg L own vd)) own (below_own 8 vd L own (omega arith)) (below_own 8 vd L own (omega arith)))
lane_own false ix vc vd L own e = refl

pub swap_same : (image : List ℕ) (i : Insn) → length image ≡ 768 → i.vc ≡ i.vd → image ≡ storing image (λ L. swap i L (lane_in image L))
unfolding swap swap_with
swap_same image i e h = unchanged image _ e (λ L l. lane_own _ _ i.vc i.vd L (lane_in image L) h)

-- two registers that are exchanged are not one
pub differ : (p q : ℕ) (b : Bool) → (not (eqb p q) && b) ≡ true → p ≡ q → ⊥
differ p q b h e = false≢true (sym (ap not (eq-eqb p q e)) ∙ and_left (not (eqb p q)) b h)

exchange_same : (image : List ℕ) (p q : ℕ) (S : ℕ → Bool) → length image ≡ 768 → p ≡ q → image ≡ storing image (λ L. exchanged p q (S L) (S L) (lane_in image L))
unfolding exchanged
exchange_same image p q S e h =
    unchanged image _ e
    (λ L l. rw h (after_both (stored_under q (S L) (lane_in image L q)) (stored_under q (S L) (lane_in image L q)) (lane_in image L) (under_own q (S L) (lane_in image L)) (under_own q (S L) (lane_in image L))))

-- where no lane swaps with bit 2 set, there is no exchange
exchange_none : (image t : List ℕ) (p q : ℕ) → length image ≡ 768 → NoIndex t
    → image ≡ storing image (λ L. exchanged p q (marked t (96 + L)) (marked t (96 + L)) (lane_in image L))
unfolding NoIndex exchanged pick
exchange_none image t p q e h =
    sym (storing_none image _ e (λ L l. ap (λ (x : ℕ). exchanged p q (eqb x 0xFFFFFFFF) (eqb x 0xFFFFFFFF) (lane_in image L)) (h L l)))

pub exchange_skipped : (image t : List ℕ) (p q : ℕ) (seen : Bool) → length image ≡ 768 → (not (eqb p q) && seen) ≡ false → (seen ≡ false → NoIndex t)
    → image ≡ storing image (λ L. exchanged p q (marked t (96 + L)) (marked t (96 + L)) (lane_in image L))
exchange_skipped image t p q false e h k = exchange_none image t p q e (k refl)
exchange_skipped image t p q true e h k = by (ℕ_discrete p q)
  where
    by : Dec (p ≡ q) → image ≡ storing image (λ L. exchanged p q (marked t (96 + L)) (marked t (96 + L)) (lane_in image L))
    by (yes r) = exchange_same image p q (λ L. marked t (96 + L)) e r
    by (no r) = absurd (false≢true (sym h ∙ simp (ne_eqb p q r)))

-- ---- the counts, one after the other

pub to_counted : (r at : ℕ) (t stores counts : List ℕ) → r < 8 → at ≡ masks_at r → counts ≡ counted stores (times 1 (λ L. marked t (at + L)))
    → counts ≡ counted stores (count_to r t)
to_counted r at t stores counts h e k =
    k
    ∙ times_one stores (λ L. marked t (at + L)) (count_to r t)
    (λ L l. ap (λ (a : ℕ). flag_of (marked t (a + L))) e ∙ ap (λ (b : Bool). flag_of (b && marked t (masks_at r + L))) (sym (lt-ltb r 8 h)))

pub to_none : (r : ℕ) (t stores : List ℕ) → 8 ≤ r → length stores ≡ 8 → stores ≡ counted stores (count_to r t)
to_none r t stores h e =
    counted_none stores (count_to r t) e (λ L l. ap (λ (b : Bool). flag_of (b && marked t (masks_at r + L))) (le-ltb r 8 h) ∙ flag_false)

pub exchanges_none : (t stores : List ℕ) → NoIndex t → length stores ≡ 8 → stores ≡ counted stores (count_exchanged t)
unfolding NoIndex
exchanges_none t stores h e =
    counted_none stores (count_exchanged t) e (λ L l. ap (λ (x : ℕ). 2 * flag_of (eqb x 0xFFFFFFFF)) (h L l) ∙ ap (λ (n : ℕ). 2 * n) flag_false)

few_to : (r : ℕ) (t : List ℕ) (c : ℕ) → over_column (count_to r t) c ≤ 4
few_to r t c = omega (arith, flag_small (to c), flag_small (to (8 + c)), flag_small (to (16 + c)), flag_small (to (24 + c)))
  where
    to : ℕ → Bool
    to L = ltb r 8 && marked t (masks_at r + L)

pub room_exchanged : (t stores counts : List ℕ) → Room 24 stores → counts ≡ counted stores (count_exchanged t) → Room 16 counts
room_exchanged t stores counts r e = room_after 24 16 8 stores counts (count_exchanged t) (omega arith) r (times_few 2 (λ L. marked t (96 + L))) e

pub room_to : (vc : ℕ) (t stores counts : List ℕ) → Room 16 stores → counts ≡ counted stores (count_to vc t) → Room 4 counts
room_to vc t stores counts r e = room_after 16 4 4 stores counts (count_to vc t) (omega arith) r (few_to vc t) e

pub all_counted : (i : Insn) (t stores first second third : List ℕ) → first ≡ counted stores (count_exchanged t) → second ≡ counted first (count_to i.vc t)
    → third ≡ counted second (count_to i.vd t)
    → third ≡ counted stores (swap_count i t)
all_counted i t stores first second third e f g =
    g ∙ ap (λ (x : List ℕ). counted x (count_to i.vd t)) (f ∙ ap (λ (x : List ℕ). counted x (count_to i.vc t)) e ∙ counted_twice stores (count_exchanged t) (count_to i.vc t))
    ∙ counted_twice stores (λ L. count_exchanged t L + count_to i.vc t L) (count_to i.vd t)

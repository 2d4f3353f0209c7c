-- One instruction over all lanes, the steps through a list, and a run. Assumes nothing.
use Rattle.std.proofs.Common.{◌≡◌, ℕ, ◌+◌, ◌*◌, ◌%◌, ◌≤◌, Bool, true, false, not, ◌&&◌, ◌||◌, eqb, ltb, List, [], length, sym, refl, ap, ◌∙◌, subst, add-one, arith, eq-eqb, ne_eqb, eqb-true}
use mathlib.Core.Bool.{false≢true}
use borrow.Author.Tests.{eqb-false}
use Rattle.lane.specs.declared.Settings.{Settings}
use Rattle.lane.specs.declared.Insn.{Insn}
use Rattle.lane.specs.Words.{pick, bit, has, flag_of, Lane, Stores, build, register_stores}
use Rattle.lane.specs.Load.{address, next_cursor, meets_dst, load}
use Rattle.lane.specs.Store.{store}
use Rattle.lane.specs.Compute.{computes, value_word, valued_with, valued}
use Rattle.lane.specs.Rule.{lanewise, stores_of, cells_of}
use Rattle.lane.proofs.Cases.{pick_true, pick_false}
use Rattle.lane.proofs.Stores.{length_build}
use Rattle.lane.proofs.Counted.{none_count}
use Rattle.runner.specs.Checks.{Found}
use Rattle.runner.specs.declared.Outcome.{Outcome}
use Rattle.runner.specs.Image.{lane_in}
use Rattle.runner.specs.Checks.{insn_at, count_of, list_limit, run_answer}
use Rattle.runner.specs.Run.{Machine, even_cell, odd_cell, with_cells, cells_after, lane_after, image_at, image_after, dst_at, dst_after, cursor_after, stepped, steps, begin, finish, stores_at, stores_in, tie_in, ties_by, stores_by, count_after, no_counts, when_done, when_refused, outcome_of, run_image, run_dst, Ran}
use Rattle.runner.specs.PrivateRows.{storing, MarksAt, Enabled}
use Rattle.runner.specs.declared.Onward.{Onward}
use Rattle.runner.specs.PrivateCompute.{sets_flags, changes_flags}
use Rattle.runner.specs.PrivateSteps.{counted, times, enabled_in, with_owed, Tallied, IsNoted, Noted, Flagged, Stored, Met, Left, starting, Through}
use Rattle.runner.proofs.Accepted.{accepted, given_short}
use Rattle.runner.proofs.Enabled.{Quiet, quiet_enabled}
use Rattle.runner.proofs.Quiet.{quiet_load}
use Rattle.runner.proofs.Lanes.{storing_same, storing_none, length_lanes}
use Rattle.runner.proofs.Counts.{no_ties, counts_start, counts_more}
use Rattle.runner.proofs.Tallied.{times_none, counted_itself, same_masks, noted, by_op, settled, nothing_made, tallied_same}
use Rattle.runner.proofs.Dsts.{length_cells, cells_same, dst_kept}

-- ---- one instruction

image_at_is : (s : Settings) (i : Insn) (a : ℕ) (image dst : List ℕ) → storing image (stores_at s i a image dst) ≡ image_at s i a image dst
unfolding image_at lane_after storing
image_at_is s i a image dst = refl

pub load_stores : (op : ℕ) (s : Settings) (a : ℕ) (i : Insn) (L : ℕ) (head : Lane) (even odd : ℕ) (own : Lane) → op ≡ 1
    → load s.srcb a i L (bit (head 12) 5) even odd own ≡ stores_of op s a i L head even odd own
unfolding stores_of lanewise pick
load_stores op s a i L head even odd own e = simp e

-- an operation that does not meet Dst is neither LOAD nor STORE
neither : (s t : Bool) → (s || t) ≡ false → (s ≡ false) × (t ≡ false)
neither true t h = absurd (false≢true (sym h))
neither false t h = (refl, h)

meets_not : (op : ℕ) → meets_dst op ≡ false → (eqb op 1 ≡ false) × (eqb op 16 ≡ false)
meets_not op h = neither (eqb op 1) (eqb op 16) h

-- a count of an operation's stores is the instruction's
stores_of_lem : (s : Settings) (i : Insn) (a : ℕ) (image dst after : List ℕ) (made : ℕ → Stores) (owed : ℕ) (stores : List ℕ) (due : ℕ) (stores' : List ℕ)
    → ((L : ℕ) → made L ≡ stores_at s i a image dst L)
    → Tallied image after (λ L. register_stores (made L)) owed stores due stores'
    → Tallied image after (stores_in s i a image dst) owed stores due stores'
stores_of_lem s i a image dst after made owed stores due stores' h t =
    tallied_same image after (λ L. register_stores (made L)) (stores_in s i a image dst) owed stores due stores' (λ L. ap register_stores (h L)) t

-- an operation's image is the instruction's if its stores are
module _ (i : Insn) (image x go : List ℕ) (made : ℕ → Stores) (p : x ≡ storing image made) where
  image_of_lem : ((s : Settings) (a : ℕ) (dst : List ℕ) (L : ℕ) → made L ≡ stores_at s i a image dst L) → (s : Settings) (a : ℕ) (dst : List ℕ) → x ≡ image_at s i a image dst
  image_of_lem h s a dst = p ∙ storing_same image made (stores_at s i a image dst) (λ L l. h s a dst L) ∙ image_at_is s i a image dst

  -- one that may change flags, what was owed to the lanes that were enabled being counted with its own
  pub flagged_arm : (before : List ℕ) (owed : ℕ) (stores stores' : List ℕ) → sets_flags i.op ≡ true → Enabled before image
      → ((e : ℕ → Bool) → MarksAt 0 e before → stores' ≡ counted stores (times (owed + flag_of (ltb i.vd 8)) e))
      → Enabled go x
      → ((s : Settings) (a : ℕ) (dst : List ℕ) (L : ℕ) → made L ≡ stores_at s i a image dst L)
      → Flagged i image x go owed stores stores'
  flagged_arm before owed stores stores' f b k g h =
      record { image_is = image_of_lem h; enabled_is = g; stores_are = λ s a dst. settled s i a image dst x before owed stores stores' f b k }

  -- one that leaves the masks, and stores once in each lane that is enabled, for vd below 8
  pub kept_arm : Enabled go image → Enabled go x → ((L : ℕ) → register_stores (made L) ≡ flag_of (computes i.vd (lane_in image L)))
      → ((s : Settings) (a : ℕ) (dst : List ℕ) (L : ℕ) → made L ≡ stores_at s i a image dst L)
      → Noted i image x go
  kept_arm g k c h =
      record {
        image_is = image_of_lem h;
        enabled_is = k;
        stores_are =
            λ s a dst owed stores l.
            stores_of_lem s i a image dst x made owed stores _ stores (h s a dst) (noted image x made owed stores i.vd _ l (same_masks go image x g k) c refl);
      }

  -- one that stores to no flag does
  pub noted_arm : Enabled go image → ((L : ℕ) → Quiet (made L)) → ((L : ℕ) → register_stores (made L) ≡ flag_of (computes i.vd (lane_in image L)))
      → ((s : Settings) (a : ℕ) (dst : List ℕ) (L : ℕ) → made L ≡ stores_at s i a image dst L)
      → Noted i image x go
  noted_arm g q c h = kept_arm g (quiet_enabled go image x made (λ L l. q L) g p) c h

  -- one that leaves them, and counts its stores
  pub counted_arm : (s : Settings) (ties ties' : List ℕ) (owed : ℕ) (stores stores' : List ℕ) → ties' ≡ counted ties (tie_in i image) → Enabled go x
      → ((L : ℕ) → Quiet (made L))
      → stores' ≡ counted stores (λ L. register_stores (made L))
      → ((a : ℕ) (dst : List ℕ) (L : ℕ) → made L ≡ stores_at s i a image dst L)
      → Stored s i image x go ties ties' owed stores owed stores'
  counted_arm s ties ties' owed stores stores' t g q u h =
      record {
        image_is = λ a dst. p ∙ storing_same image made (stores_at s i a image dst) (λ L l. h a dst L) ∙ image_at_is s i a image dst;
        enabled_is = g;
        ties_is = t;
        stores_are = λ a dst. stores_of_lem s i a image dst x made owed stores owed stores' (h a dst) (counted_itself image x made owed stores p stores' q u);
      }

-- one whose stores are owed compares nothing
pub noted_stored : (s : Settings) (i : Insn) (image x go ties : List ℕ) (owed : ℕ) (stores : List ℕ) (once : ℕ) → length ties ≡ 8 → length stores ≡ 8 → (i.op ≡ 4 → ⊥)
    → once ≡ flag_of (ltb i.vd 8)
    → Noted i image x go
    → Stored s i image x go ties ties owed stores (owed + once) stores
noted_stored s i image x go ties owed stores once l m o e n =
    record {
      image_is = n.image_is s;
      enabled_is = n.enabled_is;
      ties_is = no_ties i image ties l o;
      stores_are = λ a dst. rw e (n.stores_are s a dst owed stores m);
    }

-- one that stores nothing
pub no_arm : (s : Settings) (i : Insn) (image go ties : List ℕ) (owed : ℕ) (stores : List ℕ) → length image ≡ 768 → length ties ≡ 8 → length stores ≡ 8
    → (i.op ≡ 4 → ⊥)
    → Enabled go image
    → ((a : ℕ) (dst : List ℕ) (L : ℕ) → [] ≡ stores_at s i a image dst L)
    → Stored s i image image go ties ties owed stores owed stores
no_arm s i image go ties owed stores e l m o g h =
    record {
      image_is = λ a dst. sym (storing_none image (stores_at s i a image dst) e (λ L k. sym (h a dst L))) ∙ image_at_is s i a image dst;
      enabled_is = g;
      ties_is = no_ties i image ties l o;
      stores_are = λ a dst. stores_of_lem s i a image dst image (λ L. []) owed stores owed stores (h a dst) (nothing_made image _ owed stores m (λ L. none_count));
    }

-- EXMAN's word is that of every op which has no other
valued_rest : (op : ℕ) (i : Insn) (L : ℕ) (own : Lane) → (op ≡ 7 → ⊥) → (op ≡ 8 → ⊥) → (op ≡ 9 → ⊥) → (op ≡ 10 → ⊥) → (op ≡ 11 → ⊥)
    → valued 14 i L own ≡ valued op i L own
unfolding valued valued_with value_word pick
valued_rest op i L own a b c d e = simp (ne_eqb op 7 a, ne_eqb op 8 b, ne_eqb op 9 c, ne_eqb op 10 d, ne_eqb op 11 e)

-- ---- whether flags may change

changes_not : (op m : ℕ) → changes_flags op m ≡ false
    → ((eqb op 6 && (not (has m 4) || has m 8)) ≡ false) × ((eqb op 12 ≡ false) × ((eqb op 13 && (has m 2 || has m 8)) ≡ false))
changes_not op m h =
    let p = neither (eqb op 6 && (not (has m 4) || has m 8)) _ h in (p.0, neither (eqb op 12) (eqb op 13 && (has m 2 || has m 8)) p.1)

-- an operation that may is one of the three
pub changes_sets : (op m : ℕ) → changes_flags op m ≡ true → sets_flags op ≡ true
changes_sets op m h = one (eqb op 6) (eqb op 12) (eqb op 13) _ _ h
  where
    one : (a b c p q : Bool) → ((a && p) || (b || (c && q))) ≡ true → (a || (b || c)) ≡ true
    one true b c p q h = refl
    one false true c p q h = refl
    one false false true p q h = refl
    one false false false p q h = h

-- EXMAN's is the last of the noted operations
pub noted_rest : (op m : ℕ) (s : Settings) (a : ℕ) (i : Insn) (L : ℕ) (head : Lane) (even odd : ℕ) (own : Lane) → IsNoted op m → (op ≡ 2 → ⊥) → (op ≡ 6 → ⊥) → (op ≡ 7 → ⊥)
    → (op ≡ 8 → ⊥)
    → (op ≡ 9 → ⊥)
    → (op ≡ 10 → ⊥)
    → (op ≡ 11 → ⊥)
    → (op ≡ 13 → ⊥)
    → valued 14 i L own ≡ stores_of op s a i L head even odd own
unfolding stores_of lanewise pick
noted_rest op m s a i L head even odd own n e2 e6 e7 e8 e9 e10 e11 e13 =
    let d = meets_not op n.meets_no_dst in
    let f = changes_not op m n.changes_no_flags in
    simp (n.no_config, d.0, ne_eqb op 2 e2, n.no_lut, n.no_swap, ne_eqb op 6 e6, f.1.0, ne_eqb op 13 e13, n.no_nop, d.1) (valued_rest op i L own e7 e8 e9 e10 e11)

-- the last of those that set flags
pub flagged_op : (op : ℕ) → sets_flags op ≡ true → (op ≡ 6 → ⊥) → (op ≡ 12 → ⊥) → op ≡ 13
flagged_op op h a b = eqb-true op 13 (sym (ap (λ (t : Bool). t || (eqb op 12 || eqb op 13)) (ne_eqb op 6 a) ∙ ap (λ (t : Bool). t || eqb op 13) (ne_eqb op 12 b)) ∙ h)

-- an instruction that does not meet Dst leaves the cursor, and Dst
pub stored_left : (s : Settings) (i : Insn) (cursor : ℕ) (image dst x go ties ties' : List ℕ) (owed : ℕ) (stores : List ℕ) (due : ℕ) (stores' : List ℕ)
    → meets_dst i.op ≡ false
    → length dst ≡ 16384
    → Stored s i image x go ties ties' owed stores due stores'
    → Left s i cursor image dst ties owed stores (record { cursor = cursor; owed = due }) x dst go ties' stores'
unfolding image_after dst_after next_cursor
stored_left s i cursor image dst x go ties ties' owed stores due stores' n e h =
    record {
      cursor_is = sym (pick_false (meets_dst i.op) _ cursor n);
      image_is = h.image_is (address i.imm s.offset cursor) dst;
      dst_is = dst_kept i (address i.imm s.offset cursor) image dst (eqb-false i.op 16 (meets_not i.op n).1) e;
      enabled_is = h.enabled_is;
      ties_is = h.ties_is;
      stores_are = h.stores_are (address i.imm s.offset cursor) dst;
    }

-- so does one that may change flags
pub flagged_left : (s : Settings) (i : Insn) (cursor : ℕ) (image dst x go ties : List ℕ) (owed : ℕ) (stores stores' : List ℕ)
    → changes_flags i.op i.md ≡ true
    → length dst ≡ 16384
    → length ties ≡ 8
    → Flagged i image x go owed stores stores'
    → Left s i cursor image dst ties owed stores (record { cursor = cursor; owed = 0 }) x dst go ties stores'
unfolding image_after dst_after next_cursor
flagged_left s i cursor image dst x go ties owed stores stores' f e l h =
    let a = address i.imm s.offset cursor in
    let one = changes_sets i.op i.md f in
    let n : meets_dst i.op ≡ false = by_op (λ op. meets_dst op ≡ false) refl refl refl i.op one in
    record {
      cursor_is = sym (pick_false (meets_dst i.op) _ cursor n);
      image_is = h.image_is s a dst;
      dst_is = dst_kept i a image dst (eqb-false i.op 16 (meets_not i.op n).1) e;
      enabled_is = h.enabled_is;
      ties_is = no_ties i image ties l (λ o. false≢true (ap sets_flags (sym o) ∙ one));
      stores_are = h.stores_are s a dst;
    }

-- one that meets it does so at the address that the cursor gives, and compares nothing
pub met_left : (s : Settings) (i : Insn) (cursor a next : ℕ) (image dst x y go ties : List ℕ) (owed : ℕ) (stores stores' : List ℕ) → meets_dst i.op ≡ true
    → length ties ≡ 8
    → a ≡ address i.imm s.offset cursor
    → next ≡ cursor_after s i cursor → Met s i a image dst x y go owed stores stores'
    → Left s i cursor image dst ties owed stores (record { cursor = next; owed = owed }) x y go ties stores'
unfolding image_after dst_after
met_left s i cursor a next image dst x y go ties owed stores stores' meets e ea en h =
    record {
      cursor_is = en;
      image_is = h.image_is ∙ ap (λ (x : ℕ). image_at s i x image dst) ea;
      dst_is = h.dst_is ∙ ap (λ (x : ℕ). dst_at i x image dst) ea;
      enabled_is = h.enabled_is;
      ties_is = no_ties i image ties e (λ o. false≢true (ap meets_dst (sym o) ∙ meets));
      stores_are =
          tallied_same image x (stores_in s i a image dst) (stores_in s i (address i.imm s.offset cursor) image dst) owed stores owed stores'
          (λ L. ap (λ (y : ℕ). stores_in s i y image dst L) ea) h.stores_are;
    }

-- LOAD leaves Dst
pub load_met : (s : Settings) (i : Insn) (a : ℕ) (image dst x go : List ℕ) (owed : ℕ) (stores stores' : List ℕ) → i.op ≡ 1 → length dst ≡ 16384 → Enabled go image
    → x ≡ storing image (λ L. load s.srcb a i L (bit (lane_in image (L % 8) 12) 5) (even_cell dst a L) (odd_cell dst a L) (lane_in image L))
    → stores' ≡ counted stores (λ L. register_stores (load s.srcb a i L (bit (lane_in image (L % 8) 12) 5) (even_cell dst a L) (odd_cell dst a L) (lane_in image L)))
    → Met s i a image dst x dst go owed stores stores'
load_met s i a image dst x go owed stores stores' o e g p k =
    record {
      image_is = p ∙ storing_same image _ (stores_at s i a image dst) (λ L l. is_load L) ∙ image_at_is s i a image dst;
      dst_is = dst_kept i a image dst (λ z. one_other i.op o z) e;
      enabled_is = quiet_enabled go image x _ (λ L l. quiet_load s.srcb a i L _ _ _ (lane_in image L)) g p;
      stores_are =
          stores_of_lem s i a image dst x _ owed stores owed stores' is_load
          (counted_itself image x _ owed stores p stores' (λ L. quiet_load s.srcb a i L _ _ _ (lane_in image L)) k);
    }
  where
    is_load : (L : ℕ)
        → load s.srcb a i L (bit (lane_in image (L % 8) 12) 5) (even_cell dst a L) (odd_cell dst a L) (lane_in image L) ≡ stores_at s i a image dst L
    is_load L = load_stores i.op s a i L (lane_in image (L % 8)) (even_cell dst a L) (odd_cell dst a L) (lane_in image L) o

    one_other : (op : ℕ) → op ≡ 1 → op ≡ 16 → ⊥
    one_other op p q = omega arith

-- STORE leaves the image
pub store_none : (op : ℕ) (s : Settings) (a : ℕ) (i : Insn) (L : ℕ) (head : Lane) (even odd : ℕ) (own : Lane) → op ≡ 16 → stores_of op s a i L head even odd own ≡ []
unfolding stores_of lanewise pick
store_none op s a i L head even odd own e = simp e

pub store_cells : (op a : ℕ) (i : Insn) (L : ℕ) (exchanged : Bool) (even odd : ℕ) (own : Lane) → op ≡ 16
    → store a i L exchanged even odd own ≡ cells_of op a i L exchanged even odd own
unfolding cells_of
store_cells op a i L exchanged even odd own e = sym (pick_true (eqb op 16) (store a i L exchanged even odd own) _ (eq-eqb op 16 e))

-- of the two operations that meet Dst, the one that is no LOAD
is_store : (op : ℕ) → meets_dst op ≡ true → (op ≡ 1 → ⊥) → op ≡ 16
is_store op h n = eqb-true op 16 (sym (ap (λ (t : Bool). t || eqb op 16) (ne_eqb op 1 n)) ∙ h)

pub store_met : (s : Settings) (i : Insn) (a : ℕ) (image dst x go : List ℕ) (owed : ℕ) (stores : List ℕ) → meets_dst i.op ≡ true → (i.op ≡ 1 → ⊥) → length image ≡ 768 → Enabled go image
    → length stores ≡ 8
    → x ≡ with_cells a dst (λ L. store a i L (bit (lane_in image (L % 8) 12) 5) (even_cell dst a L) (odd_cell dst a L) (lane_in image L))
    → Met s i a image dst image x go owed stores stores
unfolding dst_at cells_after
store_met s i a image dst x go owed stores meets n e g u p =
    let o = is_store i.op meets n in
    record {
      image_is =
          sym (storing_none image (stores_at s i a image dst) e (λ L l. store_none i.op s a i L _ _ _ (lane_in image L) o))
          ∙ image_at_is s i a image dst;
      dst_is = p ∙ cells_same a dst _ (cells_after i a image dst) (λ L l. store_cells i.op a i L _ _ _ (lane_in image L) o);
      enabled_is = g;
      stores_are =
          stores_of_lem s i a image dst image (λ L. []) owed stores owed stores
          (λ L. sym (store_none i.op s a i L _ _ _ (lane_in image L) o)) (nothing_made image _ owed stores u (λ L. none_count));
    }

pub length_after : (s : Settings) (i : Insn) (cursor : ℕ) (image dst : List ℕ) → length (image_after s i cursor image dst) ≡ 768
unfolding image_after image_at
length_after s i cursor image dst = length_lanes (lane_after s i (address i.imm s.offset cursor) image dst)

pub length_dst_after : (s : Settings) (i : Insn) (cursor : ℕ) (image dst : List ℕ) → length (dst_after s i cursor image dst) ≡ 16384
unfolding dst_after dst_at
length_dst_after s i cursor image dst =
    length_cells (address i.imm s.offset cursor) dst (cells_after i (address i.imm s.offset cursor) image dst)

-- ---- the steps through a list

-- after k instructions, the counters of stores lacking what is owed
pub record Reached (s : Settings) (list start-dst start : List ℕ) (first k cursor : ℕ) (image dst go ties stores : List ℕ) (owed : ℕ) : Type 0 where
  pub cursor_is : cursor ≡ (steps s list k (starting first start start-dst)).cursor
  pub image_is : image ≡ (steps s list k (starting first start start-dst)).image
  pub dst_is : dst ≡ (steps s list k (starting first start start-dst)).dst
  pub enabled_is : Enabled go image
  pub ties_is : ties ≡ build 8 (count_after ties_by s list k (starting first start start-dst))
  pub stores_is : with_owed owed stores image ≡ build 8 (count_after (stores_by s) s list k (starting first start start-dst))
  pub eight : length stores ≡ 8
  pub few : owed ≤ k
  pub long : length image ≡ 768
  pub dst_long : length dst ≡ 16384

pub reached_start : (s : Settings) (list dst start : List ℕ) (first : ℕ) (go ties stores : List ℕ) → length start ≡ 768 → length dst ≡ 16384 → Enabled go start
    → ties ≡ no_counts
    → stores ≡ no_counts
    → Reached s list dst start first 0 first start dst go ties stores 0
unfolding steps
reached_start s list dst start first go ties stores e f g t u =
    let eight = ap length u ∙ length_build 8 (λ c. 0) in
    record {
      cursor_is = refl;
      image_is = refl;
      dst_is = refl;
      enabled_is = g;
      ties_is = t ∙ counts_start ties_by s list (starting first start dst);
      stores_is = sym (times_none stores (enabled_in start) eight) ∙ u ∙ counts_start (stores_by s) s list (starting first start dst);
      eight = eight;
      few = omega arith;
      long = e;
      dst_long = f;
    }

pub reached_more : (s : Settings) (list start-dst start : List ℕ) (first k cursor : ℕ) (image dst go ties stores : List ℕ) (owed : ℕ) (i : Insn) (next : Onward)
    (image' dst' go' ties' stores' : List ℕ)
    → Reached s list start-dst start first k cursor image dst go ties stores owed
    → i ≡ insn_at list k
    → Left s i cursor image dst ties owed stores next image' dst' go' ties' stores'
    → Reached s list start-dst start first (k + 1) next.cursor image' dst' go' ties' stores' next.owed
unfolding steps stepped
reached_more s list start-dst start first k cursor image dst go ties stores owed i next image' dst' go' ties' stores' h e m =
    let all = ap (λ (n : ℕ). steps s list n (starting first start start-dst)) (sym (add-one k)) in
    record {
      cursor_is = m.cursor_is ∙ cc (e, h.cursor_is) ∙ ap (λ (x : Machine). x.cursor) all;
      image_is = m.image_is ∙ cc (e, h.cursor_is, h.image_is, h.dst_is) ∙ ap (λ (x : Machine). x.image) all;
      dst_is = m.dst_is ∙ cc (e, h.cursor_is, h.image_is, h.dst_is) ∙ ap (λ (x : Machine). x.dst) all;
      enabled_is = m.enabled_is;
      ties_is =
          counts_more ties_by s list k (starting first start start-dst) (tie_in i image) ties ties' h.ties_is (λ L l. cc (e, h.image_is)) m.ties_is;
      stores_is =
          counts_more (stores_by s) s list k (starting first start start-dst) (stores_in s i (address i.imm s.offset cursor) image dst)
          (with_owed owed stores image) (with_owed next.owed stores' image') h.stores_is (λ L l. cc (e, h.cursor_is, h.image_is, h.dst_is))
          m.stores_are.sum_is;
      eight = m.stores_are.eight;
      few = omega (arith, m.stores_are.few, h.few);
      long = ap length m.image_is ∙ length_after s i cursor image dst;
      dst_long = ap length m.dst_is ∙ length_dst_after s i cursor image dst;
    }

-- where two ways meet: what each left, under the names after them
pub reached_same : (s : Settings) (list start-dst start : List ℕ) (first k cursor : ℕ) (image dst go ties stores : List ℕ) (owed cursor' : ℕ)
    (image' dst' go' ties' stores' : List ℕ) (owed' : ℕ)
    → image' ≡ image
    → dst' ≡ dst
    → go' ≡ go
    → ties' ≡ ties
    → stores' ≡ stores
    → owed' ≡ owed
    → cursor' ≡ cursor
    → Reached s list start-dst start first k cursor image dst go ties stores owed
    → Reached s list start-dst start first k cursor' image' dst' go' ties' stores' owed'
reached_same s list start-dst start first k cursor image dst go ties stores owed cursor' image' dst' go' ties' stores' owed' i d g t u o p h =
    record {
      cursor_is = p ∙ h.cursor_is;
      image_is = i ∙ h.image_is;
      dst_is = d ∙ h.dst_is;
      enabled_is = subst (λ (x : List ℕ). Enabled x image') (sym g) (subst (λ (x : List ℕ). Enabled go x) (sym i) h.enabled_is);
      ties_is = t ∙ h.ties_is;
      stores_is = cc (o, u, i) ∙ h.stores_is;
      eight = ap length u ∙ h.eight;
      few = omega (arith, o, h.few);
      long = ap length i ∙ h.long;
      dst_long = ap length d ∙ h.dst_long;
    }

-- at the end of the list, what is owed counted
pub reached_end : (s : Settings) (list start-dst start : List ℕ) (first k cursor : ℕ) (image dst go ties stores : List ℕ) (owed : ℕ) (tallied : List ℕ)
    → Reached s list start-dst start first k cursor image dst go ties stores owed
    → k ≡ count_of list
    → tallied ≡ with_owed owed stores image
    → Through s first start start-dst list cursor image dst ties tallied
reached_end s list start-dst start first k cursor image dst go ties stores owed tallied h e t =
    let all = ap (λ (n : ℕ). steps s list n (starting first start start-dst)) e in
    record {
      cursor_is = h.cursor_is ∙ ap (λ (x : Machine). x.cursor) all;
      image_is = h.image_is ∙ ap (λ (x : Machine). x.image) all;
      dst_is = h.dst_is ∙ ap (λ (x : Machine). x.dst) all;
      ties_is = h.ties_is ∙ ap (λ (n : ℕ). build 8 (count_after ties_by s list n (starting first start start-dst))) e;
      stores_is = t ∙ h.stores_is ∙ ap (λ (n : ℕ). build 8 (count_after (stores_by s) s list n (starting first start start-dst))) e;
    }

-- ---- a run

module _ (s : Settings) (image dst list : List ℕ) (f : Found) (e : f ≡ run_answer s image dst list) where
  zero_is : f.answer ≡ 0 → eqb (run_answer s image dst list).answer 0 ≡ true
  zero_is h = eq-eqb (run_answer s image dst list).answer 0 (sym (ap (λ (x : Found). x.answer) e) ∙ h)

  other_is : (f.answer ≡ 0 → ⊥) → eqb (run_answer s image dst list).answer 0 ≡ false
  other_is h = ne_eqb (run_answer s image dst list).answer 0 (λ z. h (ap (λ (x : Found). x.answer) e ∙ z))

  pub run_sized : f.answer ≡ 0 → (length image ≡ 768) × ((length dst ≡ 16384) × (length list ≤ 6 * list_limit))
  run_sized h =
      let a = (accepted s image dst list (sym (ap (λ (x : Found). x.answer) e) ∙ h)).passed in (a.image_long, (a.dst_long, given_short s list a.list_given))

  -- done
  pub ran_done : (cursor : ℕ) (x y ties stores : List ℕ) → f.answer ≡ 0 → Through s s.cursor image dst list cursor x y ties stores
      → Ran s image dst list (record { answer = 0; steps = count_of list; place = 0; cursor = cursor; ties = ties; stores = stores }) x y
  unfolding outcome_of run_image run_dst
  ran_done cursor x y ties stores h t =
      record {
        outcome_is =
            cc (t.cursor_is, t.ties_is, t.stores_is)
            ∙ sym (pick_true (eqb (run_answer s image dst list).answer 0) (when_done s image dst list) _ (zero_is h));
        image_is = t.image_is ∙ sym (pick_true (eqb (run_answer s image dst list).answer 0) (finish s image dst list).image image (zero_is h));
        dst_is = t.dst_is ∙ sym (pick_true (eqb (run_answer s image dst list).answer 0) (finish s image dst list).dst dst (zero_is h));
      }

  -- refused
  pub ran_refused : (ties stores : List ℕ) → ties ≡ no_counts → stores ≡ no_counts → (f.answer ≡ 0 → ⊥)
      → Ran s image dst list (record { answer = f.answer; steps = 0; place = f.place; cursor = s.cursor; ties = ties; stores = stores }) image dst
  unfolding outcome_of run_image run_dst
  ran_refused ties stores t u h =
      record {
        outcome_is =
            cc (t, u)
            ∙ ap (when_refused s) e
            ∙ sym (pick_false (eqb (run_answer s image dst list).answer 0) _ (when_refused s (run_answer s image dst list)) (other_is h));
        image_is = sym (pick_false (eqb (run_answer s image dst list).answer 0) (finish s image dst list).image image (other_is h));
        dst_is = sym (pick_false (eqb (run_answer s image dst list).answer 0) (finish s image dst list).dst dst (other_is h));
      }

-- there are eight counts of each kind, whatever a run answers
pub eight_counts : (s : Settings) (image dst list : List ℕ)
    → (length (outcome_of s image dst list).ties ≡ 8) × (length (outcome_of s image dst list).stores ≡ 8)
unfolding outcome_of pick
eight_counts s image dst list = go (eqb (run_answer s image dst list).answer 0)
  where
    go : (t : Bool)
        → (length (pick {X = Outcome} t (when_done s image dst list) (when_refused s (run_answer s image dst list))).ties ≡ 8)
        × (length (pick {X = Outcome} t (when_done s image dst list) (when_refused s (run_answer s image dst list))).stores ≡ 8)
    go true = (
      length_build 8 (count_after ties_by s list (count_of list) (begin s image dst)),
      length_build 8 (count_after (stores_by s) s list (count_of list) (begin s image dst)),
    )
    go false = (length_build 8 (λ c. 0), length_build 8 (λ c. 0))

-- LUT: rows of floats, and the stores by rows, which are in each lane those of the rule. Assumes nothing.
use Rattle.std.proofs.Common.{◌≡◌, ℕ, ◌%◌, ◌<◌, ◌≤◌, Bool, true, false, ◌&&◌, ◌||◌, ltb, List, [], ◌∷◌, length, get_or, sym, refl, ap, ◌∙◌, arith, ltb-true, lt-ltb, Option, Some, None}
use native.Mathlib.Decide.{ℕ_discrete}
use mathlib.Core.Bool.{false≢true}
use lib.Ieee.{Float, nan}
use Rattle.lane.specs.declared.Insn.{Insn}
use Rattle.lane.specs.Words.{pick, has, bit, flag_of, Lane, Stores, upd, after, enabled, register_stores}
use Rattle.lane.specs.Swap.{acts}
use Rattle.lane.specs.Lut.{lut_answer, lut_stores, lut_register, lut_with, lut}
use Rattle.lane.proofs.Cases.{pick_true, pick_false}
use Rattle.lane.proofs.Counted.{lut_count}
use Rattle.lane.proofs.Stores.{upd_same, upd_other}
use Rattle.runner.specs.Image.{lane_in}
use Rattle.runner.specs.PrivateRows.{storing, storing_in, full}
use Rattle.runner.specs.PrivateLut.{is_set, result_in, answered, stored_word, stored_slot, is_made}
use Rattle.runner.proofs.Lanes.{same_lanes}

-- ---- a row of floats that a loop fills: the first n are f's

pub record Floats (f : ℕ → Float) (n : ℕ) (xs : List Float) : Type 0 where
  pub within : n ≤ 32
  pub long : length xs ≡ 32
  pub made : (k : ℕ) → k < n → get_or xs k nan ≡ f k

-- ---- masks

pub all_ones : 0xFFFFFFFF ≡ full true
unfolding full pick
all_ones = refl

pub set_full : (t : Bool) → is_set (full t) ≡ t
unfolding full pick
set_full true = refl
set_full false = refl

-- a lane's answer, from the words that it is made of and its mask of being enabled
pub answer_by : (vd : ℕ) (own : Lane) (config r7 mask : ℕ) (x : Float) (a : Option (Float × ℕ)) → config ≡ own 12 → r7 ≡ own 7 → mask ≡ full (enabled own)
    → a ≡ lut_answer ((ltb vd 12 || bit config 4) && is_set mask) (r7 % 16) x
    → a ≡ lut_answer (acts vd own) (own 7 % 16) x
answer_by vd own config r7 mask x a ec e7 em e =
    e ∙ ap (λ (k : ℕ). lut_answer ((ltb vd 12 || bit k 4) && is_set mask) (r7 % 16) x) ec
    ∙ ap (λ (k : ℕ). lut_answer ((ltb vd 12 || bit (own 12) 4) && is_set k) (r7 % 16) x) em
    ∙ ap (λ (t : Bool). lut_answer ((ltb vd 12 || bit (own 12) 4) && t) (r7 % 16) x) (set_full (enabled own))
    ∙ ap (λ (k : ℕ). lut_answer (acts vd own) (k % 16) x) e7

-- a store under a mask of ones
pub put_all : (image x : List ℕ) (n : ℕ) (made : Stores) → x ≡ storing_in image n (pick true made []) → x ≡ storing_in image n made
unfolding pick
put_all image x n made e = e

-- ---- one lane: a word stored again changes nothing

own_again : (own : Lane) (v s : ℕ) → after ((v, own v) ∷ []) own s ≡ own s
unfolding after
own_again own v s = at (ℕ_discrete s v)
  where
    at : Dec (s ≡ v) → upd own v (own v) s ≡ own s
    at (yes q) = ap (λ (k : ℕ). upd own v (own v) k) q ∙ upd_same own v (own v) ∙ ap own (sym q)
    at (no q) = upd_other own v (own v) s q

-- the store to the slot of an answer, and the store to vd
named_again : (m r3 : ℕ) (a : Option (Float × ℕ)) (own : Lane) (s : ℕ)
    → after ((stored_slot (lut_stores m r3 a), stored_word (lut_stores m r3 a) (own 0)) ∷ []) own s ≡ after (lut_stores m r3 a) own s
unfolding after
named_again m r3 (Some (x, r)) own s = refl
named_again m r3 None own s = own_again own 0 s

direct_again : (m r3 vd : ℕ) (x : Float) (t : Bool) (own : Lane) (s : ℕ)
    → after ((vd, stored_word (lut_stores m r3 (pick t (Some (x, vd)) None)) (own vd)) ∷ []) own s ≡ after (lut_stores m r3 (pick t (Some (x, vd)) None)) own s
unfolding after pick
direct_again m r3 vd x true own s = refl
direct_again m r3 vd x false own s = own_again own vd s

-- an answer's register is below 8
pub slot_below : (m r3 : ℕ) (acting : Bool) (r : ℕ) (x : Float) → stored_slot (answered m r3 acting r x) < 8
unfolding lut_answer pick
slot_below m r3 acting r x = at (acting && ltb r 8) refl
  where
    right : (s t : Bool) → (s && t) ≡ true → t ≡ true
    right true t e = e
    right false t e = absurd (false≢true e)

    at : (b : Bool) → (acting && ltb r 8) ≡ b → stored_slot (lut_stores m r3 (pick b (Some (x, r)) None)) < 8
    at true e = ltb-true r 8 (right acting (ltb r 8) e)
    at false e = omega arith

-- ---- from the rows

module _ (i : Insn) (own : Lane) (s r3 old : ℕ) (x : Float) (e3 : r3 ≡ own 3) (ex : x ≡ result_in own) where
  pub named_lane : has i.md 8 ≡ true → old ≡ own 0
      → after ((stored_slot (answered i.md r3 (acts i.vd own) (own 7 % 16) x), stored_word (answered i.md r3 (acts i.vd own) (own 7 % 16) x) old) ∷ []) own s ≡ after (lut i own) own s
  unfolding lut lut_with lut_register
  named_lane h eo =
      rw (e3, ex, eo)
      (named_again i.md (own 3) (lut_answer (acts i.vd own) (own 7 % 16) (result_in own)) own s
      ∙ ap (λ (r : ℕ). after (lut_stores i.md (own 3) (lut_answer (acts i.vd own) r (result_in own))) own s) (sym (pick_true (has i.md 8) (own 7 % 16) i.vd h)))

  pub direct_lane : (mask : ℕ) → has i.md 8 ≡ false → i.vd < 8 → mask ≡ full (enabled own) → old ≡ own i.vd
      → after ((i.vd, stored_word (answered i.md r3 (is_set mask) i.vd x) old) ∷ []) own s ≡ after (lut i own) own s
  unfolding lut lut_with lut_register lut_answer
  direct_lane mask h l em eo =
      rw (e3, ex, em, eo, set_full)
      (direct_again i.md (own 3) i.vd (result_in own) (enabled own && ltb i.vd 8) own s
      ∙ ap (λ (b : Bool). after (lut_stores i.md (own 3) (pick (((b || has (own 12) 16) && enabled own) && ltb i.vd 8) (Some ((result_in own), i.vd)) None)) own s) (sym (lt-ltb i.vd 12 (omega arith)))
      ∙ ap (λ (r : ℕ). after (lut_stores i.md (own 3) (lut_answer (acts i.vd own) r (result_in own))) own s) (sym (pick_false (has i.md 8) (own 7 % 16) i.vd h)))

-- ---- the stores that are counted are those of the rule

made_is : (m r3 : ℕ) (acting : Bool) (r : ℕ) (x : Float) → is_made (answered m r3 acting r x) ≡ (acting && ltb r 8)
unfolding lut_answer pick
made_is m r3 acting r x = at (acting && ltb r 8)
  where
    at : (b : Bool) → is_made (lut_stores m r3 (pick b (Some (x, r)) None)) ≡ b
    at true = refl
    at false = refl

lut_stores_lem : (i : Insn) (own : Lane) → register_stores (lut i own) ≡ flag_of (acts i.vd own && ltb (lut_register i.md i.vd (own 7)) 8)
unfolding lut lut_with
lut_stores_lem i own = lut_count i.md (own 3) (lut_register i.md i.vd (own 7)) (acts i.vd own) (result_in own)

pub named_count : (i : Insn) (own : Lane) (r3 : ℕ) (x : Float) → has i.md 8 ≡ true
    → flag_of (is_made (answered i.md r3 (acts i.vd own) (own 7 % 16) x)) ≡ register_stores (lut i own)
unfolding lut_register
named_count i own r3 x h =
    ap flag_of (made_is i.md r3 (acts i.vd own) (own 7 % 16) x)
    ∙ ap (λ (r : ℕ). flag_of (acts i.vd own && ltb r 8)) (sym (pick_true (has i.md 8) (own 7 % 16) i.vd h))
    ∙ sym (lut_stores_lem i own)

pub direct_count : (i : Insn) (own : Lane) → has i.md 8 ≡ false → i.vd < 8 → flag_of (enabled own) ≡ register_stores (lut i own)
unfolding lut_register
direct_count i own h l =
    ap flag_of (both (enabled own))
    ∙ ap (λ (t : Bool). flag_of (((t || has (own 12) 16) && enabled own) && true)) (sym (lt-ltb i.vd 12 (omega arith)))
    ∙ ap (λ (t : Bool). flag_of (acts i.vd own && t)) (sym (lt-ltb i.vd 8 l))
    ∙ ap (λ (r : ℕ). flag_of (acts i.vd own && ltb r 8)) (sym (pick_false (has i.md 8) (own 7 % 16) i.vd h))
    ∙ sym (lut_stores_lem i own)
  where
    both : (t : Bool) → t ≡ (t && true)
    both true = refl
    both false = refl

-- neither, so nothing is stored
pub no_lut : (i : Insn) (own : Lane) → (has i.md 8 || ltb i.vd 8) ≡ false → lut i own ≡ []
unfolding lut lut_with lut_register lut_answer pick
no_lut i own e = rw (left (has i.md 8) (ltb i.vd 8) e, right (has i.md 8) (ltb i.vd 8) e, and_false (acts i.vd own))
  where
    left : (s t : Bool) → (s || t) ≡ false → s ≡ false
    left true t e = absurd (false≢true (sym e))
    left false t e = refl

    right : (s t : Bool) → (s || t) ≡ false → t ≡ false
    right true t e = absurd (false≢true (sym e))
    right false t e = e

    and_false : (t : Bool) → (t && false) ≡ false
    and_false true = refl
    and_false false = refl

-- without mod 8 vd is below 8
pub below_eight : (s : Bool) (vd : ℕ) → (s || ltb vd 8) ≡ true → s ≡ false → vd < 8
below_eight true vd e h = absurd (false≢true (sym h))
below_eight false vd e h = ltb-true vd 8 e

-- two ways to store are the same if they leave each lane the same
pub storing_after : (image x : List ℕ) (a b : ℕ → Stores) → x ≡ storing image a
    → ((L s : ℕ) → L < 32 → after (a L) (lane_in image L) s ≡ after (b L) (lane_in image L) s)
    → x ≡ storing image b
unfolding storing
storing_after image x a b e h =
    e ∙ same_lanes (λ L. after (a L) (lane_in image L)) (λ L. after (b L) (lane_in image L)) (λ L s hL hs. h L s hL)

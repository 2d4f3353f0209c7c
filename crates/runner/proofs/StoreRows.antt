-- STORE over all lanes: a pair of cells as a word, and the halves that the masks open. Assumes nothing.
use Rattle.std.proofs.Common.{◌≡◌, ℕ, ◌+◌, ◌-◌, ◌*◌, ◌/◌, ◌%◌, ◌^◌, ◌<◌, Bool, true, false, eqb, List, length, get_or, set, refl, ap, ◌∙◌, add-zero, mod-eq_of_lt, add_comm, arith, ne_eqb}
use lib.Bits.{bit_and, bit_xor, and_mask, and_high, and_zero_l, and_zero_r}
use Rattle.lane.specs.declared.Insn.{Insn}
use Rattle.lane.specs.Words.{pick, bit, reg, enabled}
use Rattle.lane.specs.Load.{with_high, with_low, place_of}
use Rattle.lane.specs.Store.{cells, with_cell, stored_cell, store}
use Rattle.lane.proofs.Places.{even_place, odd_place}
use Rattle.runner.specs.Image.{lane_in}
use Rattle.runner.specs.Run.{even_cell, odd_cell, with_cells}
use Rattle.runner.specs.PrivateRows.{row, full, marked, Masks, Enabled}
use Rattle.runner.specs.PrivateLoad.{odd_at, odd_in}
use Rattle.runner.specs.PrivateStore.{pair_of, stored_by}
use Rattle.runner.proofs.Filled.{operand}
use Rattle.runner.proofs.Masks.{marks, masks_of}
use Rattle.runner.proofs.Dsts.{own_cell, cells_in, cells_same, Celled, pair_more}

-- ---- halves of a word

low_half : (x : ℕ) → bit_and x 0xFFFF ≡ x % 2 ^ 16
low_half x = and_mask x 16

high_half : (x : ℕ) → x < 2 ^ 32 → bit_and x 0xFFFF0000 ≡ x / 2 ^ 16 * 2 ^ 16
high_half x h = and_high x 16 16 ∙ ap (λ (k : ℕ). k * 2 ^ 16) (mod-eq_of_lt (under x h))
  where
    under : (x : ℕ) → x < 2 ^ 32 → x / 2 ^ 16 < 2 ^ 16
    under x h = omega arith

whole : (x : ℕ) → x < 2 ^ 32 → bit_and x 0xFFFFFFFF ≡ x
whole x h = and_mask x 32 ∙ mod-eq_of_lt h

-- the half that the masks of a lane open
abbrev opened : Bool → Bool → ℕ
opened s t = bit_and (full s) (bit_xor (full t) 0xFFFF)

twice_low : (cell : ℕ) → cell < 65536 → cell * 0x10001 % 2 ^ 16 ≡ cell
twice_low cell h = omega arith

twice_high : (cell : ℕ) → cell < 65536 → cell * 0x10001 / 2 ^ 16 ≡ cell
twice_high cell h = omega arith

halves : (s t : Bool) (cell old : ℕ) → cell < 65536 → old < 2 ^ 32
    → bit_and old (0xFFFFFFFF - opened s t) + bit_and (cell * 0x10001) (opened s t) ≡ pick s (pick t (with_high old cell) (with_low old cell)) old
unfolding full pick
halves true true cell old h k =
    rw (low_half old, high_half (cell * 0x10001) (omega arith), twice_high cell h) (add_comm (old % 2 ^ 16) (cell * 2 ^ 16))
halves true false cell old h k = rw (high_half old k, low_half (cell * 0x10001), twice_low cell h) refl
halves false t cell old h k =
    rw (and_zero_l (bit_xor (full t) 0xFFFF), whole old k, and_zero_r (cell * 0x10001)) (add-zero old)

pub opened_is : (go odd cell old : ℕ) → cell < 65536 → old < 2 ^ 32 → (s t : Bool) → go ≡ full s → odd ≡ full t
    → bit_and old (0xFFFFFFFF - bit_and go (bit_xor odd 0xFFFF)) + bit_and (cell * 0x10001) (bit_and go (bit_xor odd 0xFFFF))
    ≡ pick s (pick t (with_high old cell) (with_low old cell)) old
opened_is go odd cell old h k s t eg eo = rw (eg, eo) (halves s t cell old h k)

-- the pair afterwards, as two cells
after_pair : (s t : Bool) (cell even odd both : ℕ) → even < 65536 → odd < 65536 → cell < 65536
    → both ≡ pick s (pick t (with_high (pair_of even odd) cell) (with_low (pair_of even odd) cell)) (pair_of even odd)
    → (both % 65536 ≡ (pick s (with_cell t cell even odd) (cells even odd)).even) × (both / 65536 ≡ (pick s (with_cell t cell even odd) (cells even odd)).odd)
unfolding pick with_cell
after_pair true true cell even odd both he ho hc e = (omega arith, omega arith)
after_pair true false cell even odd both he ho hc e = (omega arith, omega arith)
after_pair false t cell even odd both he ho hc e = (omega arith, omega arith)

-- ---- a turn of the loop

module _ (m : ℕ) (words odds go dst : List ℕ) (a : ℕ) (long : length dst ≡ 16384) (h : a < 1024) (small : (k : ℕ) → get_or dst k 0 < 65536)
    (mo : Masks 32 odds) (mg : Masks 32 go) where
  pub store_turn : (olds : List ℕ) (n cell both : ℕ) (now next : List ℕ) → n < 32 → cell < 65536
      → olds ≡ row (λ L. pair_of (get_or dst (64 * (a / 4) + 2 * L) 0) (get_or dst (64 * (a / 4) + 2 * L + 1) 0))
      → Celled (own_cell (stored_by m words odds go dst a)) (64 * (a / 4)) dst (2 * n) now
      → cell ≡ stored_cell m (get_or words n 0)
      → ((s t : Bool) → get_or go n 0 ≡ full s → get_or odds n 0 ≡ full t → both ≡ pick s (pick t (with_high (get_or olds n 0) cell) (with_low (get_or olds n 0) cell)) (get_or olds n 0))
      → next ≡ set (set now (64 * (a / 4) + 2 * n) (both % 65536)) (64 * (a / 4) + 2 * n + 1) (both / 65536)
      → Celled (own_cell (stored_by m words odds go dst a)) (64 * (a / 4)) dst (2 * (n + 1)) next
  unfolding stored_by Masks
  store_turn olds n cell both now next l hc eo inv ec p e =
      pair_more (stored_by m words odds go dst a) a dst n (both % 65536) (both / 65536) now next l (omega arith) inv
      (halved.0 ∙ ap (λ (x : ℕ). (pick (marked go n) (with_cell (marked odds n) x (even_cell dst a n) (odd_cell dst a n)) (cells_in dst a n)).even) ec)
      (halved.1 ∙ ap (λ (x : ℕ). (pick (marked go n) (with_cell (marked odds n) x (even_cell dst a n) (odd_cell dst a n)) (cells_in dst a n)).odd) ec)
      e
    where
      old_is : get_or olds n 0 ≡ pair_of (even_cell dst a n) (odd_cell dst a n)
      old_is =
          operand olds _ eo n l
          ∙ ap (λ (k : ℕ). pair_of (get_or dst k 0) (get_or dst (64 * (a / 4) + 2 * n + 1) 0)) (even_place a n)
          ∙ ap (λ (k : ℕ). pair_of (even_cell dst a n) (get_or dst k 0)) (odd_place a n)

      halved : (both % 65536 ≡ (pick (marked go n) (with_cell (marked odds n) cell (even_cell dst a n) (odd_cell dst a n)) (cells_in dst a n)).even)
          × (both / 65536 ≡ (pick (marked go n) (with_cell (marked odds n) cell (even_cell dst a n) (odd_cell dst a n)) (cells_in dst a n)).odd)
      halved =
          after_pair (marked go n) (marked odds n) cell (even_cell dst a n) (odd_cell dst a n) both (small (place_of a n false)) (small (place_of a n true)) hc
          (p (marked go n) (marked odds n) (mg n l) (mo n l)
          ∙ ap (λ (x : ℕ). pick (marked go n) (pick (marked odds n) (with_high x cell) (with_low x cell)) x) old_is)

-- ---- mods, and the rule from its rows

-- a mod that is neither 2 nor 7 stores as 6 does
as_low : (m w : ℕ) → (m ≡ 2 → ⊥) → (m ≡ 7 → ⊥) → stored_cell 6 w ≡ stored_cell m w
unfolding stored_cell pick
as_low m w n2 n7 = simp (ne_eqb m 2 n2, ne_eqb m 7 n7)

pub low_mod : (x dst words odds go : List ℕ) (a m : ℕ) → x ≡ with_cells a dst (stored_by 6 words odds go dst a) → (m ≡ 2 → ⊥) → (m ≡ 7 → ⊥)
    → x ≡ with_cells a dst (stored_by m words odds go dst a)
unfolding stored_by
low_mod x dst words odds go a m e n2 n7 = e ∙ cells_same a dst _ _ (λ L l. cc (as_low m (get_or words L 0) n2 n7))

-- STORE by its rows is STORE
pub store_made : (image dst x words odds go : List ℕ) (a : ℕ) (i : Insn) → x ≡ with_cells a dst (stored_by i.md words odds go dst a)
    → words ≡ row (λ L. reg L (lane_in image L) i.vd)
    → odds ≡ odd_in image a
    → Enabled go image
    → x ≡ with_cells a dst (λ L. store a i L (bit (lane_in image (L % 8) 12) 5) (even_cell dst a L) (odd_cell dst a L) (lane_in image L))
unfolding stored_by store odd_in
store_made image dst x words odds go a i e ew eo eg =
    e
    ∙ cells_same a dst _ _
    (λ L l.
    cc (
      operand words _ ew L l,
      ap (λ (x : ℕ). eqb x 0xFFFFFFFF) (operand odds _ eo L l) ∙ marks (odd_at image a L),
      ap (λ (x : ℕ). eqb x 0xFFFFFFFF) (eg.mask_is L l) ∙ marks (enabled (lane_in image L)),
    ))

pub odds_masks : (image odds : List ℕ) (a : ℕ) → odds ≡ odd_in image a → Masks 32 odds
unfolding odd_in
odds_masks image odds a e = masks_of 32 odds (odd_at image a) (λ n l. operand odds _ e n l)

pub go_masks : (image go : List ℕ) → Enabled go image → Masks 32 go
go_masks image go h = masks_of 32 go (λ n. enabled (lane_in image n)) h.mask_is

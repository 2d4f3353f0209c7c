-- Dst as its lanes' cells: what it holds after one instruction, and one law for a loop that puts cells. Assumes nothing.
use Rattle.std.proofs.Common.{◌≡◌, ℕ, ◌+◌, ◌*◌, ◌/◌, ◌%◌, ◌<◌, ◌≤◌, Bool, true, false, eqb, List, length, get_or, set, sym, refl, ap, ◌∙◌, arith, length-set, get_or-set_other, get_or-set_same, ext_get_or, eq-eqb, ne_eqb, eqb-true}
use native.Mathlib.Decide.{ℕ_discrete}
use borrow.Author.Tests.{eqb-false}
use Rattle.lane.specs.declared.Insn.{Insn}
use Rattle.lane.specs.declared.Cells.{Cells}
use Rattle.lane.specs.Words.{pick, flag_of, lane_of}
use Rattle.lane.specs.Load.{place_of, is_met, owner_of}
use Rattle.lane.specs.Store.{cells}
use Rattle.lane.specs.Rule.{cells_of}
use Rattle.lane.proofs.Cases.{pick_true, pick_false}
use Rattle.lane.proofs.Stores.{length_build, get_d_build, build_same, build_own}
use Rattle.lane.proofs.Places.{flag_true, flag_false, even_place, odd_place, lies, owned}
use Rattle.runner.specs.Run.{even_cell, odd_cell, with_cells, cells_after, dst_at}

-- ---- cells in and out of a Dst

-- the cell at p, of its owner's two
abbrev pub own_cell : (ℕ → Cells) → ℕ → ℕ
own_cell made p = pick (eqb (p % 2) 1) (made (owner_of p)).odd (made (owner_of p)).even

pub length_cells : (a : ℕ) (dst : List ℕ) (made : ℕ → Cells) → length (with_cells a dst made) ≡ 16384
unfolding with_cells
length_cells a dst made = length_build 16384 (λ p. pick (is_met a p) (own_cell made p) (get_or dst p 0))

pub cell_at : (a : ℕ) (dst : List ℕ) (made : ℕ → Cells) (p : ℕ) → p < 16384
    → get_or (with_cells a dst made) p 0 ≡ pick (is_met a p) (own_cell made p) (get_or dst p 0)
unfolding with_cells
cell_at a dst made p h = get_d_build 16384 (λ p. pick (is_met a p) (own_cell made p) (get_or dst p 0)) p h

flag_back : (t : Bool) → eqb (flag_of t) 1 ≡ t
flag_back true = ap (λ (n : ℕ). eqb n 1) flag_true
flag_back false = ap (λ (n : ℕ). eqb n 1) flag_false

-- a lane's even or odd cell is the one that it made: by the law of where it lies
own_of : (made : ℕ → Cells) (a L : ℕ) (odd : Bool) → L < 32 → own_cell made (place_of a L odd) ≡ pick odd (made L).odd (made L).even
own_of made a L odd l =
    let q = lies a L odd l in
    ap (λ (M : ℕ). pick (eqb (place_of a L odd % 2) 1) (made M).odd (made M).even) q.owner
    ∙ ap (λ (n : ℕ). pick (eqb n 1) (made L).odd (made L).even) q.parity
    ∙ ap (λ (t : Bool). pick t (made L).odd (made L).even) (flag_back odd)

pub cell_of_lem : (a : ℕ) (dst : List ℕ) (made : ℕ → Cells) (L : ℕ) (odd : Bool) → a < 1024 → L < 32
    → get_or (with_cells a dst made) (place_of a L odd) 0 ≡ pick odd (made L).odd (made L).even
cell_of_lem a dst made L odd h l =
    let q = lies a L odd l in
    cell_at a dst made (place_of a L odd) (q.within h)
    ∙ pick_true (is_met a (place_of a L odd)) (own_cell made (place_of a L odd)) _ (eq-eqb (place_of a L odd / 16 / 4) (a / 4) q.met)
    ∙ own_of made a L odd l

owner_small : (p : ℕ) → owner_of p < 32
owner_small p = omega arith

-- two Dsts are the same if their lanes' cells are
pub cells_same : (a : ℕ) (dst : List ℕ) (made other : ℕ → Cells) → ((L : ℕ) → L < 32 → made L ≡ other L) → with_cells a dst made ≡ with_cells a dst other
unfolding with_cells
cells_same a dst made other h =
    build_same 16384 (λ p. pick (is_met a p) (own_cell made p) (get_or dst p 0)) (λ p. pick (is_met a p) (own_cell other p) (get_or dst p 0))
    (λ p l. ap (λ (c : Cells). pick (is_met a p) (pick (eqb (p % 2) 1) c.odd c.even) (get_or dst p 0)) (h (owner_of p) (owner_small p)))

-- the two cells that lane L has
abbrev pub cells_in : List ℕ → ℕ → ℕ → Cells
cells_in dst a L = cells (even_cell dst a L) (odd_cell dst a L)

-- a Dst is made of its lanes' own cells
pub own_cells : (a : ℕ) (dst : List ℕ) → length dst ≡ 16384 → with_cells a dst (cells_in dst a) ≡ dst
unfolding with_cells
own_cells a dst e =
    build_same 16384 (λ p. pick (is_met a p) (own_cell (cells_in dst a) p) (get_or dst p 0)) (lane_of dst) (λ p l. own p (is_met a p) refl)
    ∙ build_own 16384 dst e
  where
    by_parity : (p : ℕ) (t : Bool) → place_of a (owner_of p) t ≡ p
        → pick t (odd_cell dst a (owner_of p)) (even_cell dst a (owner_of p)) ≡ get_or dst p 0
    by_parity p true h = pick_true true (odd_cell dst a (owner_of p)) _ refl ∙ ap (λ (k : ℕ). get_or dst k 0) h
    by_parity p false h = pick_false false _ (even_cell dst a (owner_of p)) refl ∙ ap (λ (k : ℕ). get_or dst k 0) h

    own : (p : ℕ) (t : Bool) → is_met a p ≡ t → pick (is_met a p) (own_cell (cells_in dst a) p) (get_or dst p 0) ≡ get_or dst p 0
    own p true h =
        pick_true (is_met a p) (own_cell (cells_in dst a) p) _ h ∙ by_parity p (eqb (p % 2) 1) (owned a p (eqb-true (p / 16 / 4) (a / 4) h))
    own p false h = pick_false (is_met a p) _ (get_or dst p 0) h

-- an instruction that is no STORE leaves Dst
pub dst_kept : (i : Insn) (a : ℕ) (image dst : List ℕ) → (i.op ≡ 16 → ⊥) → length dst ≡ 16384 → dst ≡ dst_at i a image dst
unfolding dst_at cells_after cells_of
dst_kept i a image dst n e =
    sym
    (cells_same a dst (cells_after i a image dst) (cells_in dst a)
    (λ L l. pick_false (eqb i.op 16) _ (cells_in dst a L) (ne_eqb i.op 16 n))
    ∙ own_cells a dst e)

-- ---- a loop that puts cells one after the other

-- after n cells from `first` on: these are g's, and the others are as before
pub record Celled (g : ℕ → ℕ) (first : ℕ) (dst : List ℕ) (n : ℕ) (now : List ℕ) : Type 0 where
  pub within : n ≤ 64
  pub long : length now ≡ length dst
  pub put : (p : ℕ) → first ≤ p → p < first + n → get_or now p 0 ≡ g p
  pub kept : (p : ℕ) → (first ≤ p → p < first + n → ⊥) → get_or now p 0 ≡ get_or dst p 0

pub cell_more : (g : ℕ → ℕ) (first : ℕ) (dst : List ℕ) (n v : ℕ) (now : List ℕ) → n < 64 → first + 64 ≤ length dst → Celled g first dst n now → v ≡ g (first + n)
    → Celled g first dst (n + 1) (set now (first + n) v)
cell_more g first dst n v now l fits h e =
    record {
      within = omega arith;
      long = length-set now (first + n) v ∙ h.long;
      put = λ p a b. at p a b (ℕ_discrete p (first + n));
      kept = λ p o. get_or-set_other now (first + n) p v 0 (λ q. o (omega arith) (omega arith)) ∙ h.kept p (λ a b. o a (omega arith));
    }
  where
    at : (p : ℕ) → first ≤ p → p < first + (n + 1) → Dec (p ≡ first + n) → get_or (set now (first + n) v) p 0 ≡ g p
    at p a b (yes q) =
        ap (λ (k : ℕ). get_or (set now (first + n) v) k 0) q ∙ get_or-set_same now (first + n) v 0 (omega (arith, h.long)) ∙ e ∙ ap g (sym q)
    at p a b (no q) = get_or-set_other now (first + n) p v 0 q ∙ h.put p a (omega arith)

-- two cells that lie side by side, those of lane n
pub pair_more : (made : ℕ → Cells) (a : ℕ) (dst : List ℕ) (n v w : ℕ) (now next : List ℕ) → n < 32 → 64 * (a / 4) + 64 ≤ length dst
    → Celled (own_cell made) (64 * (a / 4)) dst (2 * n) now
    → v ≡ (made n).even
    → w ≡ (made n).odd
    → next ≡ set (set now (64 * (a / 4) + 2 * n) v) (64 * (a / 4) + 2 * n + 1) w
    → Celled (own_cell made) (64 * (a / 4)) dst (2 * (n + 1)) next
pair_more made a dst n v w now next l fits h ev ew e =
    rw (e, two n, next_to)
    (cell_more (own_cell made) (64 * (a / 4)) dst (2 * n + 1) w (set now (64 * (a / 4) + 2 * n) v) (omega arith) fits
    (cell_more (own_cell made) (64 * (a / 4)) dst (2 * n) v now (omega arith) fits h (ev ∙ sym even_own))
    (ew ∙ sym odd_own))
  where
    two : (n : ℕ) → 2 * (n + 1) ≡ 2 * n + 1 + 1
    two n = omega arith

    next_to : 64 * (a / 4) + 2 * n + 1 ≡ 64 * (a / 4) + (2 * n + 1)
    next_to = omega arith

    even_own : own_cell made (64 * (a / 4) + 2 * n) ≡ (made n).even
    even_own = ap (λ (p : ℕ). own_cell made p) (even_place a n) ∙ own_of made a n false l ∙ pick_false false _ (made n).even refl

    odd_own : own_cell made (64 * (a / 4) + (2 * n + 1)) ≡ (made n).odd
    odd_own = ap (λ (p : ℕ). own_cell made p) (sym next_to ∙ odd_place a n) ∙ own_of made a n true l ∙ pick_true true (made n).odd _ refl

-- the 64 cells that an address meets
pub cell_end : (made : ℕ → Cells) (a : ℕ) (dst : List ℕ) (n : ℕ) (now : List ℕ) → 64 ≤ n → length dst ≡ 16384
    → Celled (own_cell made) (64 * (a / 4)) dst n now
    → now ≡ with_cells a dst made
cell_end made a dst n now l e h =
    ext_get_or 0 now (with_cells a dst made) (h.long ∙ e ∙ sym (length_cells a dst made))
    (λ p k. same p (is_met a p) refl ∙ sym (cell_at a dst made p (omega (arith, h.long))))
  where
    same : (p : ℕ) (t : Bool) → is_met a p ≡ t → get_or now p 0 ≡ pick (is_met a p) (own_cell made p) (get_or dst p 0)
    same p true q =
        let m = eqb-true (p / 16 / 4) (a / 4) q in
        h.put p (omega arith) (omega arith) ∙ sym (pick_true (is_met a p) (own_cell made p) _ q)
    same p false q =
        let m = eqb-false (p / 16 / 4) (a / 4) q in
        h.kept p (λ x y. m (omega arith)) ∙ sym (pick_false (is_met a p) _ (get_or dst p 0) q)

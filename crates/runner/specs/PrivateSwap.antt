-- Pass over this page with document 01 in the other hand: it is the vocabulary of private functions, and no promise rests on it. It has
-- SWAP by rows: the rows of masks that say which lanes swap, the stores under them, and the ties.
use Rattle.std.specs.Prelude.{◌≡◌, ℕ, ◌+◌, ◌*◌, ◌/◌, ◌%◌, ◌<◌, Bool, not, ◌&&◌, ◌||◌, List, [], ◌∷◌, ◌++◌, ◌==◌, nat_lt, slice_index}
use Rattle.lane.specs.declared.Insn.{Insn}
use Rattle.lane.specs.Words.{pick, bit, flag_of, Lane, Stores, build, enabled, lane_config, reg}
use Rattle.lane.specs.Swap.{compared, is_equal, swaps, in_mask, mask_of}
use Rattle.runner.specs.Image.{lane_in}
use Rattle.runner.specs.PrivateRows.{full, marked}

-- Whether a lane swaps: `always` under mod 0, `free` of bit 4 for vd below 12.
abbrev pub swaps_by : Bool → Bool → ℕ → ℕ → ℕ → ℕ → Lane → Bool
swaps_by always free mask L c d own =
    ((free || bit (own lane_config) 4) && enabled own) && swaps always (in_mask mask L) (bit (own lane_config) 8) c d

-- Whether a lane meets an equal pair, c and d: `free` of bit 4 for vd below 12.
abbrev pub tied_by : Bool → ℕ → ℕ → Lane → Bool
tied_by free c d own = ((free || bit (own lane_config) 4) && enabled own) && is_equal (compared c d)

-- A lane's tests in the four rows, where it is enabled (e) and swaps (t) with bit 2 set or clear (ix): it is enabled; it swaps; with bit 2 clear; with
-- bit 2 set.
unfoldable pub part : ℕ → Bool → Bool → Bool → Bool
part q e t ix = pick (q == 0) e (pick (q == 1) t (pick (q == 2) (t && not ix) (t && ix)))

-- The four rows of masks, one after the other.
unfoldable pub mask_rows : (ℕ → Bool) → (ℕ → Bool) → (ℕ → Bool) → List ℕ
mask_rows E T ix = build 128 (λ k. full (part (k / 32) (E (k % 32)) (T (k % 32)) (ix (k % 32))))

-- SWAP's, from the rows of its operands.
abbrev pub swap_rows : Insn → List ℕ → List ℕ → List ℕ → List ℕ
swap_rows i c d image =
    mask_rows (λ L. enabled (lane_in image L))
    (λ L. swaps_by (i.md == 0) (nat_lt i.vd 12) (mask_of i.md) L (slice_index c L) (slice_index d L) (lane_in image L))
    (λ L. bit (lane_in image L lane_config) 2)

-- No lane swaps with bit 2 set: the last row is all zeros.
unfoldable pub NoIndex : List ℕ → Type 0
NoIndex t = (n : ℕ) → n < 32 → slice_index t (96 + n) ≡ 0

-- A store under a test.
abbrev pub stored_under : ℕ → Bool → ℕ → Stores
stored_under p t w = pick t ((p, w) ∷ []) []

-- The exchange of two registers in a lane, each store under its own test.
unfoldable pub exchanged : ℕ → ℕ → Bool → Bool → Lane → Stores
exchanged p q s t own = stored_under p s (own q) ++ stored_under q t (own p)

-- Where the masks of a store to register r begin: the row of every lane that swaps, or of those with bit 2 clear.
unfoldable pub masks_at : ℕ → ℕ
masks_at r = pick (nat_lt r 4) 32 64

-- A swap's store to register r, only below 8.
unfoldable pub stored_to : ℕ → List ℕ → ℕ → ℕ → Stores
stored_to r t L w = pick (nat_lt r 8) (stored_under r (marked t (masks_at r + L)) w) []

-- A swap's stores to vc and vd.
unfoldable pub stored_both : ℕ → ℕ → List ℕ → ℕ → Lane → Stores
stored_both vc vd t L own = stored_to vc t L (reg L own vd) ++ stored_to vd t L (reg L own vc)

-- How many stores to register r a swap makes in lane L, and how many exchanging the index registers; then in all.
abbrev pub count_to : ℕ → List ℕ → ℕ → ℕ
count_to r t L = flag_of (nat_lt r 8 && marked t (masks_at r + L))

abbrev pub count_exchanged : List ℕ → ℕ → ℕ
count_exchanged t L = 2 * flag_of (marked t (96 + L))

abbrev pub swap_count : Insn → List ℕ → ℕ → ℕ
swap_count i t L = count_exchanged t L + count_to i.vc t L + count_to i.vd t L

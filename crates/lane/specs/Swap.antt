-- Document 01, "What each operation does": SWAP; and document 02, M-102: its comparison with three answers, and its ties.
use Rattle.std.specs.Prelude.{ℕ, ◌+◌, ◌%◌, ◌^◌, Bool, true, false, not, ◌&&◌, ◌||◌, List, [], ◌∷◌, ◌++◌, ℤ, pos, negsuc, ◌==◌, int_lt, nat_lt, slice_index}
use Rattle.lane.specs.declared.Insn.{Insn}
use Rattle.lane.specs.declared.Order.{Order}
use Rattle.lane.specs.declared.Order.TheVariants.{Below, Equal, Above}
use Rattle.lane.specs.Words.{pick, bit, magnitude, Lane, Stores, lane_config, lane_flag, use_flag, enabled_by, reg}

-- "An enabled lane acts if vd is below 12 or bit 4 is set." LUT has the same condition.
abbrev pub acts_by : ℕ → ℕ → ℕ → ℕ → Bool
acts_by vd config uses flag = (nat_lt vd 12 || bit config 4) && enabled_by uses flag

abbrev pub acts : ℕ → Lane → Bool
acts vd own = acts_by vd (own lane_config) (own use_flag) (own lane_flag)

-- "Order: a word with top bit clear ranks as itself, else as minus 1 minus its magnitude."
unfoldable pub rank : ℕ → ℤ
rank w = pick (nat_lt w (2 ^ 31)) (pos w) (negsuc (magnitude w))

unfoldable pub ranks_below : ℕ → ℕ → Bool
ranks_below c d = int_lt (rank c) (rank d)

-- Two whole numbers are equal; the library has their order, `int_lt`.
abbrev pub eq_z : ℤ → ℤ → Bool
eq_z (pos a) (pos b) = a == b
eq_z (pos a) (negsuc b) = false
eq_z (negsuc a) (pos b) = false
eq_z (negsuc a) (negsuc b) = a == b

unfoldable pub ranks_equal : ℕ → ℕ → Bool
ranks_equal c d = eq_z (rank c) (rank d)

-- Document 02, M-102: "The comparison under SWAP now answers below, equal or above": c ranks below d; the ranks are equal; neither.
unfoldable pub compared : ℕ → ℕ → Order
compared c d = pick (ranks_below c d) Below (pick (ranks_equal c d) Equal Above)

-- The answer is below, by which SWAP decides; it is equal, which is a tie.
abbrev pub is_below : Order → Bool
is_below Below = true
is_below Equal = false
is_below Above = false

abbrev pub is_equal : Order → Bool
is_equal Below = false
is_equal Equal = true
is_equal Above = false

-- "Otherwise vd wants the minimum in lanes of these masks, lane 0 lowest bit: 1 FFFFFFFF, 2 0000FFFF, .. 9 to 15 none."
abbrev pub masks : List ℕ
masks =
    0 ∷ 0xFFFFFFFF ∷ 0x0000FFFF ∷ 0x00FF00FF ∷ 0xFF0000FF ∷ 0x000000FF ∷ 0x0000FF00 ∷ 0x00FF0000 ∷ 0xFF000000 ∷ 0 ∷ 0 ∷ 0 ∷ 0 ∷ 0 ∷ 0 ∷ 0
    ∷ []

abbrev pub mask_of : ℕ → ℕ
mask_of m = slice_index masks m

abbrev pub in_mask : ℕ → ℕ → Bool
in_mask mask L = bit mask (L % 32)

-- "Wanting the minimum, swap if vc ranks below vd; else swap if vc does not rank below vd": by the comparison's answer.
abbrev pub out_of_order : Bool → ℕ → ℕ → Bool
out_of_order minimum c d = pick minimum (is_below (compared c d)) (not (is_below (compared c d)))

-- "Mod 0 always swaps. .. Bit 8 reverses that decision, never mod 0's."
unfoldable pub swaps : Bool → Bool → Bool → ℕ → ℕ → Bool
swaps always minimum reversed c d =
    always || pick reversed (not (out_of_order minimum c d)) (out_of_order minimum c d)

-- A store to register r, only below n.
unfoldable pub below : ℕ → ℕ → ℕ → Stores
below n r w = pick (nat_lt r n) ((r, w) ∷ []) []

-- Register 4 + r mod 4, which goes with register r where bit 2 is set.
abbrev pub index_of : ℕ → ℕ
index_of r = 4 + r % 4

-- "With bit 2 clear, a swap stores to vc and vd, each only below 8."
unfoldable pub plain_swap : ℕ → ℕ → ℕ → ℕ → Stores
plain_swap vc vd c d = below 8 vc d ++ below 8 vd c

-- "With bit 2 set it stores to each only below 4, then exchanges registers 4 + vc mod 4 and 4 + vd mod 4", which hold x and y.
unfoldable pub index_swap : ℕ → ℕ → ℕ → ℕ → ℕ → ℕ → Stores
index_swap vc vd c d x y = below 4 vc d ++ (below 4 vd c ++ ((index_of vc, y) ∷ (index_of vd, x) ∷ []))

-- SWAP where vc and vd hold c and d, and vd wants the minimum or not.
unfoldable pub swap_with : Bool → Insn → ℕ → ℕ → Lane → Stores
swap_with minimum i c d own =
    pick (acts i.vd own && swaps (i.md == 0) minimum (bit (own lane_config) 8) c d)
    (pick (bit (own lane_config) 2) (index_swap i.vc i.vd c d (own (index_of i.vc)) (own (index_of i.vd)))
    (plain_swap i.vc i.vd c d))
    []

-- SWAP in lane L.
unfoldable pub swap : Insn → ℕ → Lane → Stores
swap i L own = swap_with (in_mask (mask_of i.md) L) i (reg L own i.vc) (reg L own i.vd) own

-- Document 02, M-102: "enabled acting lanes met an equal pair in a SWAP with mod other than 0": one lane, where vc and vd hold c and d.
unfoldable pub tied_with : Insn → ℕ → ℕ → Lane → Bool
tied_with i c d own = not (i.md == 0) && (acts i.vd own && is_equal (compared c d))

-- The same for lane L. vc and vd the same register are an equal pair.
unfoldable pub tied : Insn → ℕ → Lane → Bool
tied i L own = tied_with i (reg L own i.vc) (reg L own i.vd) own

-- Document 01, "The image, 768 words", for one lane: its 24 words, the registers never stored, enabled, and what a store is.
use Rattle.std.specs.Prelude.{ℕ, zero, suc, ◌+◌, ◌-◌, ◌*◌, ◌/◌, ◌%◌, ◌^◌, Bool, true, false, ◌&&◌, ◌||◌, List, [], ◌∷◌, ◌++◌, get_or, ◌==◌, nat_lt}

-- One thing or the other, by a test.
unfoldable pub pick {ℓ} : {X : Type ℓ} → Bool → X → X → X
pick true x y = x
pick false x y = y

-- x has the bit of value v: "mod has 4" is `has mod 4`.
abbrev pub has : ℕ → ℕ → Bool
has x v = x / v % 2 == 1

-- Bit k of x is set, bit 0 the lowest.
abbrev pub bit : ℕ → ℕ → Bool
bit x k = has x (2 ^ k)

-- A truth value as a number, 1 or 0.
unfoldable pub flag_of : Bool → ℕ
flag_of t = pick t 1 0

-- A word's sign bit, 0 or 1, and what is left without it.
abbrev pub sign : ℕ → ℕ
sign w = w / 2 ^ 31

abbrev pub magnitude : ℕ → ℕ
magnitude w = w % 2 ^ 31

-- A lane's words, by slot.
abbrev pub Lane : Type 0
Lane = ℕ → ℕ

-- "Register by register": registers 0 to 7 are slots 0 to 7, registers 11 to 14 slots 8 to 11,
abbrev pub constant_slot : ℕ → ℕ
constant_slot r = r - 3

-- "then LaneConfig, LaneFlags, UseFlags;
abbrev pub lane_config : ℕ
lane_config = 12

abbrev pub lane_flag : ℕ
lane_flag = 13

abbrev pub use_flag : ℕ
use_flag = 14

-- macro templates 0 to 3, sequences 0 to 3, Misc".
abbrev pub template : ℕ → ℕ
template k = 15 + k

abbrev pub sequence : ℕ → ℕ
sequence k = 19 + k

abbrev pub misc : ℕ
misc = 23

-- The list of f 0, f 1 and so on, n of them.
unfoldable pub build : ℕ → (ℕ → ℕ) → List ℕ
build zero f = []
build (suc n) f = build n f ++ (f n ∷ [])

-- A lane from its list of 24 words, and back.
abbrev pub lane_of : List ℕ → Lane
lane_of ws s = get_or ws s 0

abbrev pub words_of : Lane → List ℕ
words_of own = build 24 own

-- "Registers never stored: 8 holds .., 9 holds 0, 10 holds 0x3F800000, 15 twice the lane number." Document 02, M-100, replaces document 01's word of
-- register 8: "The nearest single to 0.8373 is 0x3F56594B. Use that in both editions." (proofs/Register8.antt shows that no single lies nearer.)
unfoldable pub fixed_word : ℕ → ℕ → ℕ
fixed_word r L = pick (r == 8) 0x3F56594B (pick (r == 9) 0 (pick (r == 10) 0x3F800000 (2 * L)))

-- Register r is stored in the image: 0 to 7, and 11 to 14, at its slot.
abbrev pub is_stored : ℕ → Bool
is_stored r = nat_lt r 8 || (nat_lt 10 r && nat_lt r 15)

abbrev pub slot_of : ℕ → ℕ
slot_of r = pick (nat_lt r 8) r (constant_slot r)

-- The word of register r in lane L.
unfoldable pub reg : ℕ → Lane → ℕ → ℕ
reg L own r = pick (is_stored r) (own (slot_of r)) (fixed_word r L)

-- "A lane is enabled if its UseFlag is 0 or its LaneFlag is 1."
abbrev pub enabled_by : ℕ → ℕ → Bool
enabled_by uses flag = uses == 0 || flag == 1

abbrev pub enabled : Lane → Bool
enabled own = enabled_by (own use_flag) (own lane_flag)

-- What an operation does to a lane: its stores, each a slot and a word, in the order in which they are made.
abbrev pub Stores : Type 0
Stores = List (ℕ × ℕ)

-- A lane with the word v at slot s.
unfoldable pub upd : Lane → ℕ → ℕ → Lane
upd own s v t = pick (t == s) v (own t)

-- A lane after its stores.
unfoldable pub after : Stores → Lane → Lane
after [] own = own
after (s ∷ rest) own = after rest (upd own s.0 s.1)

-- Document 02, M-106: "the number of stores to registers 0 to 7 and 11 to 14", which are slots 0 to 11: not of LaneConfig, flags, templates, sequences or
-- Misc, which lie past them. "A store to the same word twice" counts twice.
abbrev pub is_register : ℕ → Bool
is_register s = nat_lt s 12

unfoldable pub register_stores : Stores → ℕ
register_stores [] = 0
register_stores (s ∷ rest) = flag_of (is_register s.0) + register_stores rest

-- 24 words after the stores of a lane.
unfoldable pub words_after : Stores → List ℕ → List ℕ
words_after stores ws = words_of (after stores (lane_of ws))

-- Document 01, "What each operation does": CONFIG.
use Rattle.std.specs.Prelude.{ℕ, ◌+◌, ◌-◌, ◌*◌, ◌/◌, ◌%◌, ◌^◌, Bool, not, ◌&&◌, ◌||◌, [], ◌∷◌, ◌==◌, bit_and, bit_or, bit_xor, nat_lt}
use Rattle.lane.specs.declared.Insn.{Insn}
use Rattle.lane.specs.Words.{pick, has, bit, Lane, Stores, constant_slot, lane_config, lane_flag, use_flag, template, sequence, misc}

-- "A lane is passed over if mod has 8 and imm bit 2 × column is 0, or if row 0's lane of its column has UseFlag 1 and LaneFlag 0."
abbrev pub passed_over : ℕ → ℕ → ℕ → ℕ → ℕ → Bool
passed_over m imm L uses flag = (has m 8 && not (bit imm (2 * (L % 8)))) || (uses == 1 && flag == 0)

-- "The value is imm if mod has 1, else register 0 in row 0 of that column." imm has 16 bits.
unfoldable pub value_of : ℕ → ℕ → ℕ → ℕ
value_of m imm first = pick (has m 1) (imm % 2 ^ 16) first

-- "mod's 2 and 4 together mean xor, 2 or, 4 and, neither replace"
unfoldable pub combined : ℕ → ℕ → ℕ → ℕ
combined m old v =
    pick (has m 2) (pick (has m 4) (bit_xor old v) (bit_or old v)) (pick (has m 4) (bit_and old v) v)

-- "8: Misc, the value mod 2^12"
abbrev pub misc_after : ℕ → ℕ → ℕ → ℕ
misc_after m old v = combined m old (v % 2 ^ 12)

-- "15: LaneConfig, mod 2^18. .. with an imm value LaneConfig keeps its bits 16 and 17."
unfoldable pub lane_config_after : ℕ → ℕ → ℕ → ℕ
lane_config_after m old v =
    pick (has m 1) (old / 2 ^ 16 * 2 ^ 16 + combined m old (v % 2 ^ 18) % 2 ^ 16) (combined m old (v % 2 ^ 18))

-- "with mod 1 in turn: 0xBF800000; 0x37800000 in edition 1 but 0x3B000000 in edition 2; 0xBF2CC4C7; 0xBEB08FF9"
unfoldable pub edition_constant : ℕ → ℕ → ℕ
edition_constant edition vd =
    pick (vd == 11) 0xBF800000
    (pick (vd == 12) (pick (edition == 1) 0x37800000 0x3B000000) (pick (vd == 13) 0xBF2CC4C7 0xBEB08FF9))

-- "vd 11 to 14: the value, but with mod 1 ..": `first` is register 0 in row 0.
unfoldable pub constant_after : ℕ → ℕ → ℕ → ℕ → ℕ
constant_after edition m vd first = pick (has m 1) (edition_constant edition vd) first

-- The store that CONFIG makes where the lane is not passed over, for vd 8 up: "8: Misc", "9, 10: nothing", "11 to 14", "15: LaneConfig".
unfoldable pub high_store : ℕ → Insn → ℕ → Lane → Stores
high_store edition i first own =
    pick (i.vd == 8) ((misc, misc_after i.md (own misc) (value_of i.md i.imm first)) ∷ [])
    (pick (nat_lt i.vd 11) []
    (pick (nat_lt i.vd 15) ((constant_slot i.vd, constant_after edition i.md i.vd first) ∷ [])
    ((lane_config, lane_config_after i.md (own lane_config) (value_of i.md i.imm first)) ∷ [])))

-- For any vd. "vd 0 to 3: template, always from register 0; 4 to 7: sequence".
unfoldable pub config_store : ℕ → Insn → ℕ → Lane → Stores
config_store edition i first own =
    pick (nat_lt i.vd 4) ((template i.vd, first) ∷ [])
    (pick (nat_lt i.vd 8) ((sequence (i.vd - 4), value_of i.md i.imm first) ∷ []) (high_store edition i first own))

-- CONFIG in lane L, where row 0's lane of its column has the flags `uses` and `flag`, and `first` in register 0. It "ignores the enabled rule".
unfoldable pub config_with : ℕ → Insn → ℕ → ℕ → ℕ → ℕ → Lane → Stores
config_with edition i L uses flag first own = pick (passed_over i.md i.imm L uses flag) [] (config_store edition i first own)

-- CONFIG in lane L; `head` is row 0's lane of its column.
unfoldable pub config : ℕ → Insn → ℕ → Lane → Lane → Stores
config edition i L head own = config_with edition i L (head use_flag) (head lane_flag) (head 0) own

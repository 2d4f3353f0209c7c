-- Document 01, "What each operation does": LOAD, with document 003's conversions, and LOADI.
use Rattle.std.specs.Prelude.{ℕ, ◌+◌, ◌-◌, ◌*◌, ◌/◌, ◌%◌, ◌^◌, Bool, not, ◌&&◌, ◌||◌, [], ◌∷◌, ◌==◌, nat_lt}
use Rattle.lane.specs.declared.Settings.{Settings}
use Rattle.lane.specs.declared.Insn.{Insn}
use Rattle.lane.specs.Words.{pick, bit, flag_of, sign, magnitude, Lane, Stores, lane_config, lane_flag, use_flag, enabled_by, enabled}

-- "Address = (imm + offset + cursor) mod 1024."
abbrev pub address : ℕ → ℕ → ℕ → ℕ
address imm offset cursor = (imm + offset + cursor) % 1024

-- "vb 0 to 3 chooses the stride."
unfoldable pub stride : Settings → ℕ → ℕ
stride s vb = pick (vb == 0) s.stride0 (pick (vb == 1) s.stride1 (pick (vb == 2) s.stride2 s.stride3))

-- LOAD meets Dst at an address; so does document 02's 16 STORE, at "the same address, stride and column choice".
abbrev pub meets_dst : ℕ → Bool
meets_dst op = op == 1 || op == 16

-- "Afterwards, whatever vd is, cursor = (cursor + chosen stride) mod 1024"; operations that do not meet Dst leave it.
unfoldable pub next_cursor : ℕ → ℕ → ℕ → ℕ
next_cursor op cursor chosen = pick (meets_dst op) ((cursor + chosen) % 1024) cursor

-- "row = address with its low two bits cleared, plus the lane's row"
abbrev pub row_of : ℕ → ℕ → ℕ
row_of a L = a / 4 * 4 + L / 8

-- "plus 1 if address bit 1 is set or bit 5 of LaneConfig is set in row 0's lane of that column": `exchanged` is that bit 5.
abbrev pub is_odd : ℕ → Bool → Bool
is_odd a exchanged = bit a 1 || exchanged

-- "column = twice the lane's column", and that 1 where `odd`.
abbrev pub column_of : ℕ → Bool → ℕ
column_of L odd = 2 * (L % 8) + flag_of odd

-- "row times 16 plus column": where lane L's even or odd cell lies, at address a.
unfoldable pub place_of : ℕ → ℕ → Bool → ℕ
place_of a L odd = row_of a L * 16 + column_of L odd

-- The other way round: the cell at p is in row p div 16 and column p mod 16. The four rows that an address meets hold it if both rows are the same but for
-- their low two bits;
abbrev pub is_met : ℕ → ℕ → Bool
is_met a p = p / 16 / 4 == a / 4

-- then it is one of the two cells of the lane in row p div 16 mod 4 and column p mod 16 div 2.
abbrev pub owner_of : ℕ → ℕ
owner_of p = 8 * (p / 16 % 4) + p % 16 / 2

-- Document 003's conversions of a cell of 16 bits.

-- A word of a sign, an exponent's field and the digits from bit 13 up.
abbrev pub fp16_word : ℕ → ℕ → ℕ → ℕ
fp16_word s e m = s * 2 ^ 31 + e * 2 ^ 23 + m * 2 ^ 13

-- ReadFP16, sign, ten digits and five bits of exponent. The largest becomes infinity where `inf`, ENABLE_FP16A_INF, is set; any other
-- exponent but 0 is rebiased by 112.
unfoldable pub fp16 : Bool → ℕ → ℕ
fp16 inf x =
    pick (inf && (x % 32 == 31 && x / 32 % 1024 == 1023)) (fp16_word (x / 2 ^ 15) 255 0)
    (pick (x % 32 == 0) (fp16_word (x / 2 ^ 15) 0 (x / 32 % 1024)) (fp16_word (x / 2 ^ 15) (x % 32 + 112) (x / 32 % 1024)))

-- UnshuffleBF16 in the high half: sign, seven digits and eight bits of exponent become sign, exponent and digits.
unfoldable pub bf16 : ℕ → ℕ
bf16 x = x / 2 ^ 15 * 2 ^ 31 + x % 256 * 2 ^ 23 + x / 256 % 128 * 2 ^ 16

-- The sign, and `width` bits of magnitude from bit `place` up. SignMag8ToSignMag32 has seven from bit 5, SignMag16ToSignMag32 fifteen from bit 0,
-- SignMag11ToSignMag32 ten from bit 5.
unfoldable pub sign_mag : ℕ → ℕ → ℕ → ℕ
sign_mag place width x = x / 2 ^ 15 * 2 ^ 31 + x / 2 ^ place % 2 ^ width

-- SignMagToTwosComp: minus the magnitude where the sign is set.
unfoldable pub twos_comp : ℕ → ℕ
twos_comp w = pick (sign w == 1) ((2 ^ 32 - magnitude w) % 2 ^ 32) (magnitude w)

-- A word with another high half, or another low half.
abbrev pub with_high : ℕ → ℕ → ℕ
with_high old h = h * 2 ^ 16 + old % 2 ^ 16

abbrev pub with_low : ℕ → ℕ → ℕ
with_low old h = old / 2 ^ 16 * 2 ^ 16 + h

-- "1 is FP16, 2 BF16, 5 INT8, 6 UINT16, 7 HI16, 8 INT16, 9 LO16, 11 zero, 13 INT8_COMP, 14 LO16_ONLY, 15 HI16_ONLY; 14 and 15 keep the
-- other half." The mods that are refused come last, with 11.
unfoldable pub loaded : ℕ → Bool → ℕ → ℕ → ℕ
loaded m inf old cell =
    pick (m == 1) (fp16 inf cell)
    (pick (m == 2) (bf16 cell)
    (pick (m == 5) (sign_mag 5 7 cell)
    (pick (m == 6) cell
    (pick (m == 7) (cell * 2 ^ 16)
    (pick (m == 8) (sign_mag 0 15 cell)
    (pick (m == 9) cell
    (pick (m == 13) (twos_comp (sign_mag 5 10 cell)) (pick (m == 14) (with_low old cell) (pick (m == 15) (with_high old cell) 0)))))))))

-- "Mod 0 means mod srcb."
unfoldable pub resolved : ℕ → ℕ → ℕ
resolved srcb m = pick (m == 0) srcb m

-- "If vd is below 8 and bit 1 of the lane's LaneConfig is clear", in an enabled lane.
abbrev pub loads_by : ℕ → ℕ → ℕ → ℕ → Bool
loads_by vd config uses flag = nat_lt vd 8 && (enabled_by uses flag && not (bit config 1))

abbrev pub loads : ℕ → Lane → Bool
loads vd own = loads_by vd (own lane_config) (own use_flag) (own lane_flag)

-- "If vd is below 4 and bits 2 and 3 are both set, register vd+4 gets row times 16 plus column."
abbrev pub captures : ℕ → ℕ → Bool
captures vd config = nat_lt vd 4 && (bit config 2 && bit config 3)

-- LOAD of the cell `cell` with mod m, `place` being row times 16 plus column.
unfoldable pub load_with : ℕ → ℕ → ℕ → ℕ → Lane → Stores
load_with vd m cell place own =
    pick (loads vd own)
    ((vd, loaded m (bit (own lane_config) 0) (own vd) cell) ∷ pick (captures vd (own lane_config)) ((vd + 4, place) ∷ []) [])
    []

-- LOAD in lane L from address a; `even` and `odd` are the two cells of the lane's row and column of Dst.
unfoldable pub load : ℕ → ℕ → Insn → ℕ → Bool → ℕ → ℕ → Lane → Stores
load srcb a i L exchanged even odd own =
    load_with i.vd (resolved srcb i.md) (pick (is_odd a exchanged) odd even) (place_of a L (is_odd a exchanged)) own

-- LOADI. "Mod 8 writes imm to the high half, 10 to the low half; the other half stays." imm has 16 bits.
unfoldable pub immediate : ℕ → ℕ → ℕ → ℕ
immediate m imm old = pick (m == 8) (with_high old (imm % 2 ^ 16)) (with_low old (imm % 2 ^ 16))

unfoldable pub loadi : Insn → Lane → Stores
loadi i own = pick (nat_lt i.vd 8 && enabled own) ((i.vd, immediate i.md i.imm (own i.vd)) ∷ []) []

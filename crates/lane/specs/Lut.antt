-- Document 01, "What each operation does": LUT, with document 001's byte rule. Floats are binary32, rounded to nearest even.
use Rattle.std.specs.Prelude.{ℕ, ◌+◌, ◌-◌, ◌*◌, ◌/◌, ◌%◌, ◌^◌, Bool, ◌&&◌, [], ◌∷◌, ◌==◌, from_bits, nat_lt, to_bits, Float, Option, Some, None}
use Rattle.std.specs.Float.{binary32}
use Rattle.std.specs.Float.Ieee.{add, mul, lt}
use Rattle.lane.specs.declared.Insn.{Insn}
use Rattle.lane.specs.declared.Piece.{Piece}
use Rattle.lane.specs.Words.{pick, has, sign, magnitude, Lane, Stores}
use Rattle.lane.specs.Swap.{acts}

-- "b is register 3 with its sign cleared, a denormal counting as 0."
unfoldable pub input_bits : ℕ → ℕ
input_bits w = pick (nat_lt (magnitude w) (2 ^ 23)) 0 (magnitude w)

abbrev pub input_of : ℕ → Float
input_of w = from_bits binary32 (input_bits w)

-- "Register 0 serves b < 1, 1 serves b < 2, 2 all else, NaN included." 0x3F800000 is 1, 0x40000000 is 2.
unfoldable pub serving : Float → ℕ → ℕ → ℕ → ℕ
serving b c0 c1 c2 = pick (lt b (from_bits binary32 0x3F800000)) c0 (pick (lt b (from_bits binary32 0x40000000)) c1 c2)

-- "by 001's byte rule (0xFF is +0)": a sign, three bits of exponent taken from 127, four digits.
unfoldable pub byte_word : ℕ → ℕ
byte_word x = pick (x == 255) 0 (x / 128 * 2 ^ 31 + (127 - x / 16 % 8) * 2 ^ 23 + x % 16 * 2 ^ 19)

-- "Bits 15 to 8 and 7 to 0 .. each byte pair gives a slope and an intercept, kept together as floats."
abbrev pub piece_of : ℕ → Piece
piece_of k = record { slope = from_bits binary32 (byte_word (k / 256 % 256)); intercept = from_bits binary32 (byte_word (k % 256)) }

-- "Result: slope times b, rounded, plus intercept, rounded to nearest even."
abbrev pub sum_of : Piece → Float → Float
sum_of k b = add binary32 (mul binary32 k.slope b) k.intercept

-- The result where registers 0, 1, 2 and 3 hold c0, c1, c2 and r3.
abbrev pub result_of : ℕ → ℕ → ℕ → ℕ → Float
result_of c0 c1 c2 r3 = sum_of (piece_of (serving (input_of r3) c0 c1 c2)) (input_of r3)

-- "A denormal result becomes zero of its sign; any NaN becomes 0x7FC00000" (which is what to_bits gives a NaN).
unfoldable pub flushed : ℕ → ℕ
flushed w = pick (nat_lt (magnitude w) (2 ^ 23)) (sign w * 2 ^ 31) w

-- "Mod bit 4 then copies register 3's sign."
unfoldable pub signed : ℕ → ℕ → ℕ → ℕ
signed m r3 w = pick (has m 4) (sign r3 * 2 ^ 31 + magnitude w) w

-- The word that a result is stored as.
abbrev pub lut_word : ℕ → ℕ → Float → ℕ
lut_word m r3 x = signed m r3 (flushed (to_bits binary32 x))

-- "With mod bit 8 the register is the low four bits of register 7."
unfoldable pub lut_register : ℕ → ℕ → ℕ → ℕ
lut_register m vd r7 = pick (has m 8) (r7 % 16) vd

-- "A lane's LUT answer is a number with its register, or nothing stored, the lane not acting or the register being 8 or more."
unfoldable pub lut_answer : Bool → ℕ → Float → Option (Float × ℕ)
lut_answer acting r x = pick (acting && nat_lt r 8) (Some (x, r)) None

-- Document 01's word and register for each case of that answer.
abbrev pub lut_stores : ℕ → ℕ → Option (Float × ℕ) → Stores
lut_stores m r3 (Some (x, r)) = (r, lut_word m r3 x) ∷ []
lut_stores m r3 None = []

-- LUT where registers 0, 1, 2, 3 and 7 hold c0, c1, c2, r3 and r7.
unfoldable pub lut_with : Insn → ℕ → ℕ → ℕ → ℕ → ℕ → Lane → Stores
lut_with i c0 c1 c2 r3 r7 own =
    lut_stores i.md r3
    (lut_answer (acts i.vd own) (lut_register i.md i.vd r7) (result_of c0 c1 c2 r3))

unfoldable pub lut : Insn → Lane → Stores
lut i own = lut_with i (own 0) (own 1) (own 2) (own 3) (own 7) own

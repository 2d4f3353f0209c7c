-- Document 01, "What each operation does": IADD and the others, each the word that it computes and the flag that it sets.
use Rattle.std.specs.Prelude.{ℕ, ◌+◌, ◌-◌, ◌/◌, ◌%◌, ◌^◌, Bool, not, ◌&&◌, [], ◌∷◌, ◌==◌, bit_and, bit_or, bit_xor, nat_le, nat_lt}
use Rattle.std.specs.Int.Count.{count_leading_zeros}
use Rattle.lane.specs.declared.Insn.{Insn}
use Rattle.lane.specs.Words.{pick, has, flag_of, magnitude, Lane, Stores, lane_flag, enabled, reg}

-- "negative as a signed word"
abbrev pub negative : ℕ → Bool
negative w = nat_le (2 ^ 31) w

-- A flag inverted.
unfoldable pub inverted : ℕ → ℕ
inverted f = pick (f == 0) 1 0

-- The flag that is set where `sets`, else the old one; "then 8 inverts it", and "8 inverts the old flag where none was just set".
unfoldable pub flag_after : Bool → Bool → ℕ → ℕ → ℕ
flag_after sets truth m old = pick (has m 8) (inverted (pick sets (flag_of truth) old)) (pick sets (flag_of truth) old)

-- IADD.

-- "imm as a signed 12-bit number", extended to a word.
unfoldable pub extended : ℕ → ℕ
extended imm = pick (nat_lt (imm % 4096) 2048) (imm % 4096) (imm % 4096 + (2 ^ 32 - 4096))

-- "Sums and differences wrap at 2^32."
abbrev pub plus : ℕ → ℕ → ℕ
plus a b = (a + b) % 2 ^ 32

abbrev pub minus : ℕ → ℕ → ℕ
minus a b = (a + (2 ^ 32 - b)) % 2 ^ 32

-- "If mod has 1, vc plus imm ..; else if 2, vc minus vd; else vc plus vd."
unfoldable pub iadd_word : ℕ → ℕ → ℕ → ℕ → ℕ
iadd_word m imm c d = pick (has m 1) (plus c (extended imm)) (pick (has m 2) (minus c d) (plus c d))

-- "Unless mod has 4, LaneFlag = result negative as a signed word; then 8 inverts it."
abbrev pub iadd_flag : ℕ → ℕ → ℕ → ℕ
iadd_flag m result old = flag_after (not (has m 4)) (negative result) m old

-- "LZ counts the leading zero bits of vc, 32 for zero, after clearing the top bit if mod has 4".

unfoldable pub lz_operand : ℕ → ℕ → ℕ
lz_operand m c = pick (has m 4) (magnitude c) c

abbrev pub lz_word : ℕ → ℕ → ℕ
lz_word m c = count_leading_zeros 32 (lz_operand m c)

-- "mod 2 sets LaneFlag to 'that word is not zero', then mod 8 inverts it."
abbrev pub lz_flag : ℕ → ℕ → ℕ → ℕ
lz_flag m c old = flag_after (has m 2) (not (lz_operand m c == 0)) m old

-- "EXEXP: exponent field minus 127 as a signed word (mod 1: not subtracted)".
abbrev pub exponent : ℕ → ℕ
exponent c = c / 2 ^ 23 % 256

unfoldable pub exexp_word : ℕ → ℕ → ℕ
exexp_word m c = pick (has m 1) (exponent c) (minus (exponent c) 127)

-- "mod 2 sets LaneFlag to negative, then 8 inverts."
abbrev pub exexp_flag : ℕ → ℕ → ℕ → ℕ
exexp_flag m result old = flag_after (has m 2) (negative result) m old

-- The operations that compute a word alone.

-- "ABS mod 0: signed, -2^31 unchanged; mod 1 clears the sign but leaves a NaN with the sign set."
abbrev pub is_nan : ℕ → Bool
is_nan w = nat_lt 0x7F800000 (magnitude w)

unfoldable pub abs_word : ℕ → ℕ → ℕ
abs_word m c =
    pick (has m 1) (pick (is_nan c) c (magnitude c)) (pick (negative c) (2 ^ 32 - c) c)

-- "AND, OR: vd with vc, or vb with vc under mod 1."
unfoldable pub other : ℕ → ℕ → ℕ → ℕ
other m b d = pick (has m 1) b d

-- "EXMAN: low 23 bits, plus 2^23 unless mod 1."
unfoldable pub exman_word : ℕ → ℕ → ℕ
exman_word m c = c % 2 ^ 23 + pick (has m 1) 0 (2 ^ 23)

-- One table for the operations that compute a word alone, from vb's, vc's and vd's words: 7 ABS, 8 AND, 9 OR, 10 XOR, 11 NOT, 14 EXMAN.
unfoldable pub value_word : ℕ → ℕ → ℕ → ℕ → ℕ → ℕ
value_word op m b c d =
    pick (op == 7) (abs_word m c)
    (pick (op == 8) (bit_and (other m b d) c)
    (pick (op == 9) (bit_or (other m b d) c)
    (pick (op == 10) (bit_xor d c) (pick (op == 11) (2 ^ 32 - 1 - c) (exman_word m c)))))

-- "Unless said, an operation acts in enabled lanes, .. and stores to vd only below 8. With vd at or above 8 it also changes no flags."
abbrev pub computes : ℕ → Lane → Bool
computes vd own = nat_lt vd 8 && enabled own

-- A word for vd, and a word with a flag.
unfoldable pub word_only : ℕ → ℕ → Lane → Stores
word_only vd w own = pick (computes vd own) ((vd, w) ∷ []) []

unfoldable pub word_and_flag : ℕ → ℕ → ℕ → Lane → Stores
word_and_flag vd w f own = pick (computes vd own) ((vd, w) ∷ (lane_flag, f) ∷ []) []

-- Each operation where vb, vc and vd hold b, c and d; then in lane L, of its own registers.
unfoldable pub valued_with : ℕ → Insn → ℕ → ℕ → ℕ → Lane → Stores
valued_with op i b c d own = word_only i.vd (value_word op i.md b c d) own

unfoldable pub valued : ℕ → Insn → ℕ → Lane → Stores
valued op i L own = valued_with op i (reg L own i.vb) (reg L own i.vc) (reg L own i.vd) own

unfoldable pub iadd_with : Insn → ℕ → ℕ → Lane → Stores
iadd_with i c d own =
    word_and_flag i.vd (iadd_word i.md i.imm c d) (iadd_flag i.md (iadd_word i.md i.imm c d) (own lane_flag)) own

unfoldable pub iadd : Insn → ℕ → Lane → Stores
iadd i L own = iadd_with i (reg L own i.vc) (reg L own i.vd) own

unfoldable pub lz_with : Insn → ℕ → Lane → Stores
lz_with i c own = word_and_flag i.vd (lz_word i.md c) (lz_flag i.md c (own lane_flag)) own

unfoldable pub lz : Insn → ℕ → Lane → Stores
lz i L own = lz_with i (reg L own i.vc) own

unfoldable pub exexp_with : Insn → ℕ → Lane → Stores
exexp_with i c own =
    word_and_flag i.vd (exexp_word i.md c) (exexp_flag i.md (exexp_word i.md c) (own lane_flag)) own

unfoldable pub exexp : Insn → ℕ → Lane → Stores
exexp i L own = exexp_with i (reg L own i.vc) own

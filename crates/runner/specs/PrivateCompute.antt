-- Pass over this page with document 01 in the other hand: it is the vocabulary of private functions, and no promise rests on it. It has
-- the stores of the computing operations, from the rows of their operands.
use Rattle.std.specs.Prelude.{ℕ, ◌+◌, ◌-◌, ◌*◌, ◌/◌, ◌%◌, ◌^◌, Bool, not, ◌&&◌, ◌||◌, ◌==◌, bit_or, nat_lt}
use Rattle.std.specs.Int.Count.{count_leading_zeros}
use Rattle.lane.specs.declared.Insn.{Insn}
use Rattle.lane.specs.Words.{pick, has, Lane, Stores, lane_flag}
use Rattle.lane.specs.Compute.{lz_operand, iadd_word, exexp_word, value_word, negative, flag_after, word_only, word_and_flag}

-- The operations that may set LaneFlag: IADD, LZ and EXEXP.
abbrev pub sets_flags : ℕ → Bool
sets_flags op = op == 6 || (op == 12 || op == 13)

-- Whether an instruction may change flags: IADD and EXEXP where LaneFlag is set or inverted. LZ is taken to with every mod.
abbrev pub changes_flags : ℕ → ℕ → Bool
changes_flags op m = (op == 6 && (not (has m 4) || has m 8)) || (op == 12 || (op == 13 && (has m 2 || has m 8)))

-- An instruction with another mod.
abbrev pub with_mod : Insn → ℕ → Insn
with_mod i m = record { op = i.op; imm = i.imm; vb = i.vb; vc = i.vc; vd = i.vd; md = m }

-- LZ's operand is vc cut by this limit.
unfoldable pub lz_limit : ℕ → ℕ
lz_limit m = 0xFFFFFFFF - m / 4 % 2 * 0x80000000

-- The zeros that are counted, the operand's lowest digit taken as set: one fewer than its own if it is zero, and else as many.
unfoldable pub lz_count : ℕ → ℕ → ℕ
lz_count m c = count_leading_zeros 32 (bit_or (lz_operand m c) 1)

-- LZ's word, from that count.
unfoldable pub lz_from : ℕ → ℕ → ℕ → ℕ
lz_from m count c = (count + pick (lz_operand m c == 0) 1 0) % 2 ^ 32

-- The word that an operation computes; LZ's comes counted, in vb's place.
unfoldable pub word_of : ℕ → Insn → ℕ → ℕ → ℕ → ℕ
word_of op i b c d =
    pick (op == 6) (iadd_word i.md i.imm c d) (pick (op == 12) (lz_from i.md b c) (pick (op == 13) (exexp_word i.md c) (value_word op i.md b c d)))

-- What LaneFlag is set to, from that word.
unfoldable pub truth_of : ℕ → ℕ → Bool
truth_of op w = pick (op == 12) (nat_lt w 32) (negative w)

-- The stores of a lane whose vb and vc hold b and c: a word alone,
unfoldable pub word_with : ℕ → Insn → ℕ → ℕ → Lane → Stores
word_with op i b c own = word_only i.vd (word_of op i b c (own i.vd)) own

-- and a word with a flag.
unfoldable pub flagged_with : ℕ → Insn → Bool → ℕ → ℕ → Lane → Stores
flagged_with op i sets b c own =
    word_and_flag i.vd (word_of op i b c (own i.vd))
    (flag_after sets (truth_of op (word_of op i b c (own i.vd))) i.md (own lane_flag))
    own

-- Document 02, M-101: STORE. Its address, its cursor and its column are LOAD's own.
use Rattle.std.specs.Prelude.{ℕ, ◌+◌, ◌*◌, ◌/◌, ◌%◌, ◌^◌, Bool, ◌==◌}
use Rattle.lane.specs.declared.Insn.{Insn}
use Rattle.lane.specs.declared.Cells.{Cells}
use Rattle.lane.specs.Words.{pick, Lane, reg, enabled}
use Rattle.lane.specs.Load.{is_odd}

-- "the high half with BF16's exponent and mantissa moved back": sign, exponent and seven digits become sign, digits and exponent. It is the exact inverse of
-- `bf16` on the high half (crate claims, `PackingInverts`).
unfoldable pub packed_bf16 : ℕ → ℕ
packed_bf16 w = w / 2 ^ 31 * 2 ^ 15 + w / 2 ^ 16 % 128 * 2 ^ 8 + w / 2 ^ 23 % 256

-- "mod 2 writes the high half with BF16's exponent and mantissa moved back, mod 6 and 9 the low half, mod 7 the high half." The mods that are refused
-- come last, with 6 and 9.
unfoldable pub stored_cell : ℕ → ℕ → ℕ
stored_cell m w = pick (m == 2) (packed_bf16 w) (pick (m == 7) (w / 2 ^ 16) (w % 2 ^ 16))

-- A lane's two cells, the even and the odd one,
abbrev pub cells : ℕ → ℕ → Cells
cells even odd = record { even = even; odd = odd }

-- and with `cell` in the place of one of them.
unfoldable pub with_cell : Bool → ℕ → ℕ → ℕ → Cells
with_cell to_odd cell even odd = pick to_odd (cells even cell) (cells cell odd)

-- STORE in lane L to address a: "In enabled lanes"; "Bit 1 doesn't block it." vd is "the register read (any of 0 to 15)".
unfoldable pub store : ℕ → Insn → ℕ → Bool → ℕ → ℕ → Lane → Cells
store a i L exchanged even odd own =
    pick (enabled own) (with_cell (is_odd a exchanged) (stored_cell i.md (reg L own i.vd)) even odd) (cells even odd)

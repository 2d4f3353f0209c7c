-- Pass over this page with document 01 in the other hand: it is the vocabulary of private functions, and no promise rests on it. It has
-- the quick test of an instruction, whether any check refuses it, before the exact one, which says by what number.
use Rattle.std.specs.Prelude.{ℕ, ◌+◌, ◌-◌, ◌*◌, ◌%◌, ◌^◌, Bool, ◌&&◌, List, [], ◌∷◌, ◌==◌, bit_and, bit_or, nat_eq, slice_index}
use Rattle.lane.specs.declared.Insn.{Insn}
use Rattle.lane.specs.Words.{pick, bit}
use Rattle.lane.specs.Refusals.{imm_limits, vb_limits, vc_limits, vd_limits}
use Rattle.runner.specs.declared.checks.Over.{Over}

-- Two fields side by side, 32 bits each.
abbrev pub pair : ℕ → ℕ → ℕ
pair a b = a + b * 2 ^ 32

-- The bits that a field up to a limit may not have, where the limit is ones alone.
abbrev pub past : ℕ → ℕ
past limit = 2 ^ 32 - 1 - limit

-- A row of the table: op is below 32 and mod below 16, the other fields within their limits.
unfoldable pub over : ℕ → ℕ → ℕ → ℕ → ℕ → Over
over imm vb vc vd mods =
    record { left = pair (past 31) (past imm); middle = pair (past vb) (past vc); right = pair (past vd) (past 15); mods = mods }

-- For each op, from op 0, the mods that draw no refusal: mod m as bit m where vb is 0, as bit 16 + m where it isn't.
abbrev pub plain_mods : List ℕ
plain_mods =
    0 ∷ 0xEBE7EBE7 ∷ 0x0500 ∷ 0x1111 ∷ 0xFFFF ∷ 0xFFFF ∷ 0xFFFF ∷ 0x0003 ∷ 0x20003 ∷ 0x20003 ∷ 0x0001 ∷ 0x0001 ∷ 0x5555 ∷ 0x0F0F ∷ 0x0003
    ∷ 0x0001
    ∷ 0x02C402C4
    ∷ []

unfoldable pub over_of : ℕ → Over
over_of k = over (slice_index imm_limits k) (slice_index vb_limits k) (slice_index vc_limits k) (slice_index vd_limits k) (slice_index plain_mods k)

abbrev pub mod_place : ℕ → ℕ → ℕ
mod_place m vb = (m % 32 + pick (vb == 0) 0 16) % 32

-- No field has a bit too many,
unfoldable pub none_over : Over → Insn → Bool
none_over o i =
    nat_eq
    (bit_or (bit_or (bit_and (pair i.op i.imm) o.left) (bit_and (pair i.vb i.vc) o.middle)) (bit_and (pair i.vd i.md) o.right))
    0

-- and the mod is among those.
abbrev pub plain_by : Over → Insn → Bool
plain_by o i = none_over o i && bit o.mods (mod_place i.md i.vb)

abbrev pub plain : Insn → Bool
plain i = plain_by (over_of (i.op % 32)) i

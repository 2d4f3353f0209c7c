-- Document 01, "The clerk's numbers" and "Fields", as far as one lane goes: the refusals 3, 6, 7, 8 and 9.
use Rattle.std.specs.Prelude.{ℕ, ◌^◌, Bool, not, ◌&&◌, ◌||◌, List, [], ◌∷◌, ◌==◌, nat_le, nat_lt, slice_index, Result, Ok, Err, ⊤}
use Rattle.lane.specs.declared.Settings.{Settings}
use Rattle.lane.specs.declared.Insn.{Insn}
use Rattle.lane.specs.declared.Limits.{Limits}
use Rattle.lane.specs.declared.Stepped.{Stepped}
use Rattle.lane.specs.declared.Refusal.{Refusal}
use Rattle.lane.specs.declared.Refusal.TheVariants.{ImageSize, DstSize, Setting, ListShape, ListLimit, ImageForm, UnknownOp, Field, LoadMod, Text, Room, Step}
use Rattle.lane.specs.Words.{pick, bit, Lane, lane_config, lane_flag, use_flag, misc, lane_of, words_after}
use Rattle.lane.specs.Load.{address}
use Rattle.lane.specs.Store.{cells}
use Rattle.lane.specs.Rule.{stores_of, cells_of}

-- "The clerk's numbers", and 12 of document 02, M-103.
abbrev pub number : Refusal → ℕ
number ImageSize = 1
number DstSize = 2
number Setting = 3
number ListShape = 4
number ListLimit = 5
number ImageForm = 6
number UnknownOp = 7
number Field = 8
number LoadMod = 9
number Text = 10
number Room = 11
number Step = 12

-- The number that a check gives: 0 where nothing is refused.
abbrev pub answer_of : Result ⊤ Refusal → ℕ
answer_of (Ok _) = 0
answer_of (Err why) = number why

-- On with the rest where a test holds, else the refusal n.
unfoldable pub pass : Bool → ℕ → ℕ → ℕ
pass test n rest = pick test rest n

-- "edition (1 or 2), srcb (1 or 2), offset, cursor and stride0 to stride3 (each 0 to 1023)"
abbrev pub one_or_two : ℕ → Bool
one_or_two n = n == 1 || n == 2

unfoldable pub settings_good : Settings → Bool
settings_good s =
    one_or_two s.edition && one_or_two s.srcb && nat_lt s.offset 1024 && nat_lt s.cursor 1024 && nat_lt s.stride0 1024
    && nat_lt s.stride1 1024 && nat_lt s.stride2 1024 && nat_lt s.stride3 1024

-- "Well formed: .. LaneConfig below 2^18, Misc below 2^12, flags 0 or 1."
abbrev pub well_formed_by : ℕ → ℕ → ℕ → ℕ → Bool
well_formed_by config flag uses m = nat_lt config (2 ^ 18) && nat_lt m (2 ^ 12) && nat_lt flag 2 && nat_lt uses 2

abbrev pub well_formed : Lane → Bool
well_formed own = well_formed_by (own lane_config) (own lane_flag) (own use_flag) (own misc)

-- "Fields": for each op, from op 0, which is none, to 16 STORE, the largest number that a field may hold; "not named means must be 0". Document 02, M-101: STORE
-- has "fields as LOAD".
abbrev pub imm_limits : List ℕ
imm_limits = 0 ∷ 1023 ∷ 65535 ∷ 0 ∷ 0 ∷ 65535 ∷ 4095 ∷ 0 ∷ 0 ∷ 0 ∷ 0 ∷ 0 ∷ 0 ∷ 0 ∷ 0 ∷ 0 ∷ 1023 ∷ []

abbrev pub vb_limits : List ℕ
vb_limits = 0 ∷ 3 ∷ 0 ∷ 0 ∷ 0 ∷ 0 ∷ 0 ∷ 0 ∷ 15 ∷ 15 ∷ 0 ∷ 0 ∷ 0 ∷ 0 ∷ 0 ∷ 0 ∷ 3 ∷ []

abbrev pub vc_limits : List ℕ
vc_limits = 0 ∷ 0 ∷ 0 ∷ 0 ∷ 15 ∷ 0 ∷ 15 ∷ 15 ∷ 15 ∷ 15 ∷ 15 ∷ 15 ∷ 15 ∷ 15 ∷ 15 ∷ 0 ∷ 0 ∷ []

abbrev pub vd_limits : List ℕ
vd_limits = 0 ∷ 15 ∷ 15 ∷ 15 ∷ 15 ∷ 15 ∷ 15 ∷ 15 ∷ 15 ∷ 15 ∷ 15 ∷ 15 ∷ 15 ∷ 15 ∷ 15 ∷ 0 ∷ 15 ∷ []

-- The mods allowed, mod m as bit m: LOADI 8 or 10; LUT 0, 4, 8 or 12; ABS, AND, OR, EXMAN 0 or 1; XOR, NOT, NOP 0; LZ even; EXEXP without bit 2;
-- STORE 2, 6, 7 or 9 ("Other mods are refused by 8").
abbrev pub mods_allowed : List ℕ
mods_allowed =
    0 ∷ 0xFFFF ∷ 0x0500 ∷ 0x1111 ∷ 0xFFFF ∷ 0xFFFF ∷ 0xFFFF ∷ 0x0003 ∷ 0x0003 ∷ 0x0003 ∷ 0x0001 ∷ 0x0001 ∷ 0x5555 ∷ 0x0F0F ∷ 0x0003
    ∷ 0x0001
    ∷ 0x02C4
    ∷ []

-- A row of those tables.
abbrev pub limits : ℕ → ℕ → ℕ → ℕ → ℕ → Limits
limits imm vb vc vd mods = record { imm = imm; vb = vb; vc = vc; vd = vd; mods = mods }

unfoldable pub limits_of : ℕ → Limits
limits_of op =
    limits (slice_index imm_limits op) (slice_index vb_limits op) (slice_index vc_limits op) (slice_index vd_limits op) (slice_index mods_allowed op)

-- A field of op within its limit.
abbrev pub within : List ℕ → ℕ → ℕ → Bool
within limits op x = nat_le x (slice_index limits op)

-- "mod is 0 to 15 unless narrowed"
abbrev pub mod_in : ℕ → ℕ → Bool
mod_in mask m = nat_lt m 16 && bit mask m

abbrev pub mod_allowed : ℕ → ℕ → Bool
mod_allowed op m = mod_in (slice_index mods_allowed op) m

-- "AND, OR: .. vb only with mod 1."
abbrev pub vb_tied : ℕ → ℕ → ℕ → Bool
vb_tied op vb m = vb == 0 || not (op == 8 || op == 9) || m == 1

-- 8, the other way round: every field in its range.
unfoldable pub fields_good : ℕ → Insn → Bool
fields_good op i =
    within imm_limits op i.imm && within vb_limits op i.vb && within vc_limits op i.vc && within vd_limits op i.vd
    && mod_allowed op i.md
    && vb_tied op i.vb i.md

-- 7, the other way round: "Fifteen operations, numbered", and op 16 STORE.
abbrev pub op_known : ℕ → Bool
op_known op = nat_le 1 op && nat_le op 16

-- 9: "LOAD mod 3, 4, 10 or 12".
abbrev pub wide_load : ℕ → ℕ → Bool
wide_load op m = op == 1 && (m == 3 || m == 4 || m == 10 || m == 12)

-- "7 before 8 before 9 within one." `also` is what 8 asks besides the fields: in the lane rules, that the lane is at most 31.
unfoldable pub instruction_answer : Bool → Insn → ℕ
instruction_answer also i =
    pass (op_known i.op) 7 (pass (fields_good i.op i && also) 8 (pass (not (wide_load i.op i.md)) 9 0))

-- "The lane rules are offered separately, refusing by 3, 6, 7, 8 (also a lane above 31) and 9 in that order".
unfoldable pub lane_answer : Settings → ℕ → Insn → Lane → Lane → ℕ
lane_answer s L i own head =
    pass (settings_good s) 3 (pass (well_formed own && well_formed head) 6 (instruction_answer (nat_le L 31) i))

-- The answer with the words and the two cells after, or a refusal with the "words as given", and the cells.
unfoldable pub lane_step : Settings → ℕ → Insn → List ℕ → List ℕ → ℕ → ℕ → Stepped
lane_step s L i own head even odd =
    record {
      answer = lane_answer s L i (lane_of own) (lane_of head);
      words =
          pick (lane_answer s L i (lane_of own) (lane_of head) == 0)
          (words_after (stores_of i.op s (address i.imm s.offset s.cursor) i L (lane_of head) even odd (lane_of own)) own)
          own;
      cells =
          pick (lane_answer s L i (lane_of own) (lane_of head) == 0)
          (cells_of i.op (address i.imm s.offset s.cursor) i L (bit (lane_of head lane_config) 5) even odd (lane_of own))
          (cells even odd);
    }

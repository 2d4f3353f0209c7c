-- Document 01, "Twelve to keep in the proof table".
use Rattle.std.specs.Prelude.{ℕ, Bool, true, false, not, ◌&&◌, List, [], ◌∷◌, eqb}
use Rattle.lane.specs.declared.Settings.{Settings}
use Rattle.lane.specs.declared.Insn.{Insn}
use Rattle.lane.specs.Words.{Lane, lane_config, lane_flag, upd, words_of}
use Rattle.lane.specs.Load.{fp16, bf16, twos_comp}
use Rattle.lane.specs.Swap.{ranks_below}
use Rattle.lane.specs.Lut.{byte_word}
use Rattle.lane.specs.Refusals.{lane_step}

-- Every test of a list holds.
abbrev pub all : List Bool → Bool
all [] = true
all (t ∷ ts) = t && all ts

-- Two lists have the same words.
unfoldable pub same : List ℕ → List ℕ → Bool
same [] [] = true
same [] (y ∷ ys) = false
same (x ∷ xs) [] = false
same (x ∷ xs) (y ∷ ys) = eqb x y && same xs ys

-- Settings in their ranges, and a lane of zeros.
abbrev pub plainly : Settings
plainly = record { edition = 1; srcb = 1; offset = 0; cursor = 0; stride0 = 0; stride1 = 0; stride2 = 0; stride3 = 0 }

abbrev pub zeros : Lane
zeros s = 0

-- By the lane rules an instruction is accepted in lane 0, and takes its words from one lane's to another's.
abbrev pub takes_to : Insn → Lane → Lane → Bool
takes_to i own next =
    eqb (lane_step plainly 0 i (words_of own) (words_of own) 0 0).answer 0
    && same (lane_step plainly 0 i (words_of own) (words_of own) 0 0).words (words_of next)

-- K11's instruction, of registers 0, and K12's.
abbrev pub add_minus_one : Insn
add_minus_one = record { op = 6; imm = 4095; vb = 0; vc = 0; vd = 0; md = 1 }

abbrev pub keep_bit8 : Insn
keep_bit8 = record { op = 5; imm = 256; vb = 0; vc = 0; vd = 15; md = 5 }

abbrev pub twelve : List Bool
twelve =
    -- K1 80000000 ranks below 0. K2 0 does not rank below 0. K3 FFFFFFFF ranks below FF800000.
    ranks_below 0x80000000 0 ∷ not (ranks_below 0 0) ∷ ranks_below 0xFFFFFFFF 0xFF800000
    -- K4 LUT byte 7F is 3C780000. K5 byte FF is 0. K6 byte F0 is BC000000.
    ∷ eqb (byte_word 0x7F) 0x3C780000
    ∷ eqb (byte_word 0xFF) 0
    ∷ eqb (byte_word 0xF0) 0xBC000000
    -- K7 INT8_COMP's last step: 80000005 gives FFFFFFFB. K8 80000000 gives 0.
    ∷ eqb (twos_comp 0x80000005) 0xFFFFFFFB
    ∷ eqb (twos_comp 0x80000000) 0
    -- K9 FP16 cell 7FFF: 7F800000 with bit 0 set, 47FFE000 without.
    ∷ (eqb (fp16 true 0x7FFF) 0x7F800000 && eqb (fp16 false 0x7FFF) 0x47FFE000)
    -- K10 BF16 cell 007F gives 3F800000.
    ∷ eqb (bf16 0x007F) 0x3F800000
    -- K11 IADD mod 1 of 0 and imm 4095: FFFFFFFF, flag 1.
    ∷ takes_to add_minus_one zeros (upd (upd zeros 0 0xFFFFFFFF) lane_flag 1)
    -- K12 CONFIG vd 15, mod 5, imm 256 on hexadecimal 30004 gives hexadecimal 30000.
    ∷ takes_to keep_bit8 (upd zeros lane_config 0x30004) (upd zeros lane_config 0x30000)
    ∷ []

-- Pass over this page with document 01 in the other hand: it is the vocabulary of private functions, and no promise rests on it. It has
-- CONFIG by rows: the columns that it reaches, their values, and the word that a lane is left with.
use Rattle.std.specs.Prelude.{ℕ, ◌-◌, Bool, not, ◌&&◌, List, ◌==◌, nat_le, nat_lt}
use Rattle.lane.specs.declared.Insn.{Insn}
use Rattle.lane.specs.Words.{pick, Lane, constant_slot, lane_config, lane_flag, use_flag, template, sequence, misc}
use Rattle.lane.specs.Config.{passed_over, value_of, misc_after, lane_config_after, constant_after}
use Rattle.runner.specs.Image.{lane_in}
use Rattle.runner.specs.PrivateRows.{full, columns}

-- Whether CONFIG reaches column j, `head` being its lane in row 0.
unfoldable pub reached : Insn → Lane → ℕ → Bool
reached i head j = not (passed_over i.md i.imm j (head use_flag) (head lane_flag))

-- The row of masks of the lanes that CONFIG reaches.
unfoldable pub reached_in : Insn → List ℕ → List ℕ
reached_in i image = columns (λ j. full (reached i (lane_in image j) j))

-- CONFIG's slot, for any vd but 9 and 10.
unfoldable pub config_slot : ℕ → ℕ
config_slot vd =
    pick (nat_lt vd 4) (template vd) (pick (nat_lt vd 8) (sequence (vd - 4)) (pick (vd == 8) misc (pick (nat_lt vd 15) (constant_slot vd) lane_config)))

-- A column's value, where row 0 has `first` in register 0.
unfoldable pub config_value : ℕ → Insn → ℕ → ℕ
config_value edition i first =
    pick (nat_lt i.vd 4) first (pick (nat_le 11 i.vd && nat_lt i.vd 15) (constant_after edition i.md i.vd first) (value_of i.md i.imm first))

-- The word that a value leaves in place of `old`: Misc and LaneConfig are combined with it.
unfoldable pub written : ℕ → ℕ → ℕ → ℕ → ℕ
written vd m value old =
    pick (vd == 8) (misc_after m old value) (pick (nat_lt vd 15) value (lane_config_after m old value))

-- One instruction in one lane: the operations by their numbers, the lane afterwards, its two cells, and whether it met an equal pair.
use Rattle.std.specs.Prelude.{ℕ, Bool, ◌&&◌, ◌||◌, [], ◌==◌}
use Rattle.lane.specs.declared.Settings.{Settings}
use Rattle.lane.specs.declared.Insn.{Insn}
use Rattle.lane.specs.declared.Cells.{Cells}
use Rattle.lane.specs.Words.{pick, bit, Lane, Stores, lane_config}
use Rattle.lane.specs.Load.{load, loadi}
use Rattle.lane.specs.Store.{cells, store}
use Rattle.lane.specs.Swap.{swap, tied}
use Rattle.lane.specs.Lut.{lut}
use Rattle.lane.specs.Config.{config}
use Rattle.lane.specs.Compute.{valued, iadd, lz, exexp}

-- "1 LOAD, 2 LOADI, 3 LUT, 4 SWAP, .., 6 IADD, 7 ABS, 8 AND, 9 OR, 10 XOR, 11 NOT, 12 LZ, 13 EXEXP, 14 EXMAN, 15 NOP", and document
-- 02's op 16 STORE, which changes no word of a lane: all but CONFIG. They read the lane's own words, its two cells of Dst and, by LOAD, one bit of row 0's
-- lane.
unfoldable pub lanewise : ℕ → ℕ → ℕ → Insn → ℕ → Bool → ℕ → ℕ → Lane → Stores
lanewise op srcb a i L exchanged even odd own =
    pick (op == 1) (load srcb a i L exchanged even odd own)
    (pick (op == 2) (loadi i own)
    (pick (op == 3) (lut i own)
    (pick (op == 4) (swap i L own)
    (pick (op == 6) (iadd i L own)
    (pick (op == 12) (lz i L own)
    (pick (op == 13) (exexp i L own) (pick (op == 15 || op == 16) [] (valued op i L own))))))))

-- The stores of one instruction in lane L: `head` is row 0's lane of L's column, a the address. "5 CONFIG" alone reads more of it than a bit.
unfoldable pub stores_of : ℕ → Settings → ℕ → Insn → ℕ → Lane → ℕ → ℕ → Lane → Stores
stores_of op s a i L head even odd own =
    pick (op == 5) (config s.edition i L head own)
    (lanewise op s.srcb a i L (bit (head lane_config) 5) even odd own)

-- Its two cells afterwards: STORE alone changes one of them, and reads the same bit of row 0's lane.
unfoldable pub cells_of : ℕ → ℕ → Insn → ℕ → Bool → ℕ → ℕ → Lane → Cells
cells_of op a i L exchanged even odd own = pick (op == 16) (store a i L exchanged even odd own) (cells even odd)

-- Whether it met an equal pair: SWAP alone compares, and it compares the lane's own words, as they are before the instruction.
unfoldable pub is_tied : ℕ → Insn → ℕ → Lane → Bool
is_tied op i L own = op == 4 && tied i L own

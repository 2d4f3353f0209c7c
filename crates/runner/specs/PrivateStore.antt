-- Pass over this page with document 01 in the other hand: it is the vocabulary of private functions, and no promise rests on it. It has
-- STORE over all lanes: a lane's two cells from its rows.
use Rattle.std.specs.Prelude.{ℕ, ◌+◌, ◌*◌, ◌^◌, List, slice_index}
use Rattle.lane.specs.declared.Cells.{Cells}
use Rattle.lane.specs.Words.{pick}
use Rattle.lane.specs.Store.{cells, with_cell, stored_cell}
use Rattle.runner.specs.Run.{even_cell, odd_cell}
use Rattle.runner.specs.PrivateRows.{marked}

-- Two cells as a word, the even one in its low half.
abbrev pub pair_of : ℕ → ℕ → ℕ
pair_of even odd = even + odd * 2 ^ 16

-- The two cells of lane L with mod m: `words` is the row of vd, `odds` and `go` have the masks of the lanes whose cell is the odd one, and that are enabled.
unfoldable pub stored_by : ℕ → List ℕ → List ℕ → List ℕ → List ℕ → ℕ → ℕ → Cells
stored_by m words odds go dst a L =
    pick (marked go L) (with_cell (marked odds L) (stored_cell m (slice_index words L)) (even_cell dst a L) (odd_cell dst a L))
    (cells (even_cell dst a L) (odd_cell dst a L))

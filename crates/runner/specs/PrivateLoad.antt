-- Pass over this page with document 01 in the other hand: it is the vocabulary of private functions, and no promise rests on it. It has
-- LOAD over all lanes: its masks, its cells and its stores.
use Rattle.std.specs.Prelude.{ℕ, ◌+◌, ◌*◌, Bool, not, ◌&&◌, List, [], ◌∷◌, slice_index}
use Rattle.lane.specs.Words.{pick, bit, Lane, Stores, lane_config, enabled}
use Rattle.lane.specs.Load.{loads, captures, loaded, is_odd, place_of, load_with}
use Rattle.runner.specs.Image.{lane_in, head_of}
use Rattle.runner.specs.Run.{even_cell, odd_cell}
use Rattle.runner.specs.PrivateRows.{row, full}

-- Whether lane L's cell is the odd one of its pair, at address a.
abbrev pub odd_at : List ℕ → ℕ → ℕ → Bool
odd_at image a L = is_odd a (bit (lane_in image (head_of L) lane_config) 5)

-- The row of masks of those lanes.
unfoldable pub odd_in : List ℕ → ℕ → List ℕ
odd_in image a = row (λ L. full (odd_at image a L))

-- A lane that LOAD stores in, vd being below 8.
abbrev pub is_open : Lane → Bool
is_open own = enabled own && not (bit (own lane_config) 1)

-- The row of masks of those lanes.
unfoldable pub open_in : List ℕ → List ℕ
open_in image = row (λ L. full (is_open (lane_in image L)))

-- Of those, the lanes that capture their place, and the row of their masks.
abbrev pub is_caught : ℕ → List ℕ → ℕ → Bool
is_caught vd image L = is_open (lane_in image L) && captures vd (lane_in image L lane_config)

unfoldable pub caught_in : ℕ → List ℕ → List ℕ
caught_in vd image = row (λ L. full (is_caught vd image L))

-- Lane L's cell, of the pairs from place `at` on.
abbrev pub cell_of : List ℕ → ℕ → Bool → ℕ → ℕ
cell_of dst at odd L = pick odd (slice_index dst (at + (2 * L + 1))) (slice_index dst (at + 2 * L))

-- LOAD's stores in lane L, with mod m at address a.
unfoldable pub loaded_at : List ℕ → List ℕ → ℕ → ℕ → ℕ → ℕ → Stores
loaded_at image dst a vd m L =
    load_with vd m (pick (odd_at image a L) (odd_cell dst a L) (even_cell dst a L)) (place_of a L (odd_at image a L)) (lane_in image L)

-- LOAD's two stores apart: the word, and the place.
unfoldable pub loaded_only : ℕ → ℕ → ℕ → Lane → Stores
loaded_only vd m cell own = pick (loads vd own) ((vd, loaded m (bit (own lane_config) 0) (own vd) cell) ∷ []) []

unfoldable pub captured_only : ℕ → ℕ → Lane → Stores
captured_only vd place own = pick (loads vd own && captures vd (own lane_config)) ((vd + 4, place) ∷ []) []

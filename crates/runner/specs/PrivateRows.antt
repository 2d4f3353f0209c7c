-- Pass over this page with document 01 in the other hand: it is the vocabulary of private functions, and no promise rests on it. It has
-- images after stores in all lanes, rows, and masks.
use Rattle.std.specs.Prelude.{◌≡◌, ℕ, ◌+◌, ◌/◌, ◌%◌, ◌<◌, Bool, List, [], length, ◌==◌, nat_lt, slice_index}
use Rattle.lane.specs.Words.{pick, Stores, build, after, enabled, fixed_word}
use Rattle.runner.specs.Image.{lane_in, of_lanes}

-- The image in which each lane L has made the stores `made L`.
unfoldable pub storing : List ℕ → (ℕ → Stores) → List ℕ
storing image made = of_lanes (λ L. after (made L) (lane_in image L))

-- The image in which lane L alone has made stores.
unfoldable pub storing_in : List ℕ → ℕ → Stores → List ℕ
storing_in image L made = storing image (λ M. pick (M == L) made [])

-- A row: a word for each of the 32 lanes.
unfoldable pub row : (ℕ → ℕ) → List ℕ
row f = build 32 f

-- A row that holds the same word in the four lanes of a column.
unfoldable pub columns : (ℕ → ℕ) → List ℕ
columns f = row (λ L. f (L % 8))

-- A test as a mask: a word of ones, or of zeros.
unfoldable pub full : Bool → ℕ
full t = pick t 0xFFFFFFFF 0

-- Whether the mask at k is set.
abbrev pub marked : List ℕ → ℕ → Bool
marked t k = slice_index t k == 0xFFFFFFFF

-- The 32 masks from `at` on are those of e's tests, lane by lane.
abbrev pub MarksAt : ℕ → (ℕ → Bool) → List ℕ → Type 0
MarksAt at e t = (n : ℕ) → n < 32 → slice_index t (at + n) ≡ full (e n)

-- They are masks, each by its own test.
abbrev pub MasksAt : ℕ → List ℕ → Type 0
MasksAt at t = MarksAt at (λ n. marked t (at + n)) t

-- Each of the first n words is a mask.
unfoldable pub Masks : ℕ → List ℕ → Type 0
Masks n t = (k : ℕ) → k < n → slice_index t k ≡ full (marked t k)

-- A run's four rows of masks: the first is of the lanes that are enabled in its image.
pub record Enabled (go image : List ℕ) : Type 0 where
  pub size : length go ≡ 128
  pub mask_is : (n : ℕ) → n < 32 → slice_index go n ≡ full (enabled (lane_in image n))

-- The rows of the registers that are never stored, one after the other: 8, 9, 10 and 15, the last for any number past 10.
abbrev pub fixed_register : ℕ → ℕ
fixed_register q = pick (nat_lt q 3) (8 + q) 15

unfoldable pub fixed_rows : List ℕ
fixed_rows = build 128 (λ k. fixed_word (fixed_register (k / 32)) (k % 32))

-- A register's number, any past 15 taken for 15: both hold twice the lane number.
unfoldable pub register_of : ℕ → ℕ
register_of r = pick (nat_lt r 16) r 15

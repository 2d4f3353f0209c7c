-- Document 01, "The image, 768 words": where a word lies, a lane of an image, and an image of 32 lanes.
use Rattle.std.specs.Prelude.{ℕ, zero, suc, ◌+◌, ◌*◌, ◌/◌, ◌%◌, Bool, true, ◌&&◌, List, length, take, drop, ◌==◌, slice_index}
use Rattle.lane.specs.Words.{pick, Lane, build, is_stored, slot_of}
use Rattle.lane.specs.Refusals.{well_formed}

-- "Register by register, 32 lanes each": the word of slot s in lane L.
abbrev pub word_at : ℕ → ℕ → ℕ
word_at s L = 32 * s + L

-- Lane L of an image.
unfoldable pub lane_in : List ℕ → ℕ → Lane
lane_in image L s = slice_index image (word_at s L)

-- The image of 768 words with the lanes F 0 to F 31.
unfoldable pub of_lanes : (ℕ → Lane) → List ℕ
of_lanes F = build 768 (λ p. F (p % 32) (p / 32))

-- "Lane L is in column L mod 8, row L div 8": row 0's lane of L's column.
abbrev pub head_of : ℕ → ℕ
head_of L = L % 8

-- "Well formed: .. LaneConfig below 2^18, Misc below 2^12, flags 0 or 1", in the first n lanes.
unfoldable pub lanes_good : List ℕ → ℕ → Bool
lanes_good image zero = true
lanes_good image (suc n) = lanes_good image n && well_formed (lane_in image n)

-- Well formed, of an image that has its 768 words.
abbrev pub image_good : List ℕ → Bool
image_good image = lanes_good image 32

-- "A host may ask for one stored register's lanes and is handed that part of its own image, 32 words; for any other register number, or an
-- image not 768 words long, an empty part": there is something to see of register r in an image of so many words.
abbrev pub in_view : ℕ → ℕ → Bool
in_view size r = size == 768 && is_stored r

-- The first word of that part, counted from the image's first, and its length. An empty part is at 0.
unfoldable pub register_start : ℕ → ℕ → ℕ
register_start size r = pick (in_view size r) (word_at (slot_of r) 0) 0

unfoldable pub register_count : ℕ → ℕ → ℕ
register_count size r = pick (in_view size r) 32 0

-- The words of that part,
unfoldable pub view : List ℕ → ℕ → List ℕ
view image r = take (register_count (length image) r) (drop (register_start (length image) r) image)

-- and where it begins, by the image's own pointer: a word has four bytes.
unfoldable pub view_pointer : ℕ × ℕ → List ℕ → ℕ → ℕ × ℕ
view_pointer p image r = (p.0, p.1 + 4 * register_start (length image) r)

-- What writing a lane of a register does to an image.
use Rattle.std.specs.Prelude.{ℕ, ◌+◌, List, length, set, ltb}
use Rattle.lane.specs.Words.{pick}
use Rattle.runner.specs.Image.{register_start, register_count}

-- An image with a word in a lane of register r, where the view has that lane.
unfoldable pub with_lane : List ℕ → ℕ → ℕ → ℕ → List ℕ
with_lane image r lane word =
    pick (ltb lane (register_count (length image) r)) (set image (register_start (length image) r + lane) word) image

-- Document 01, "What the replay covers": one instruction over all lanes, the steps through a list, and a run. Document 02, M-101: "Dst is now written"; M-102:
-- ties, and M-106: stores to registers, both counted by column.
use Rattle.std.specs.Prelude.{◌≡◌, ℕ, zero, suc, ◌+◌, ◌%◌, true, false, List, ◌==◌, slice_index}
use Rattle.lane.specs.declared.Settings.{Settings}
use Rattle.lane.specs.declared.Insn.{Insn}
use Rattle.lane.specs.declared.Cells.{Cells}
use Rattle.lane.specs.Words.{pick, bit, flag_of, Lane, Stores, lane_config, build, after, register_stores}
use Rattle.lane.specs.Load.{address, stride, next_cursor, place_of, is_met, owner_of}
use Rattle.lane.specs.Rule.{stores_of, cells_of, is_tied}
use Rattle.runner.specs.Checks.{Found}
use Rattle.runner.specs.declared.Outcome.{Outcome}
use Rattle.runner.specs.Image.{lane_in, of_lanes, head_of}
use Rattle.runner.specs.Checks.{insn_at, count_of, run_answer}

-- What a run works on: the image, the Dst ("1,024 rows of 16, row by row"), the cursor.
pub record Machine : Type 0 where
  pub image : List ℕ
  pub dst : List ℕ
  pub cursor : ℕ

-- The two cells of lane L's row and column, at address a.
abbrev pub even_cell : List ℕ → ℕ → ℕ → ℕ
even_cell dst a L = slice_index dst (place_of a L false)

abbrev pub odd_cell : List ℕ → ℕ → ℕ → ℕ
odd_cell dst a L = slice_index dst (place_of a L true)

-- Lane L's stores in one instruction, at address a: the lane rules over the lane, row 0's lane of its column and its two cells.
abbrev pub stores_at : Settings → Insn → ℕ → List ℕ → List ℕ → ℕ → Stores
stores_at s i a image dst L = stores_of i.op s a i L (lane_in image (head_of L)) (even_cell dst a L) (odd_cell dst a L) (lane_in image L)

-- Lane L after them.
unfoldable pub lane_after : Settings → Insn → ℕ → List ℕ → List ℕ → ℕ → Lane
lane_after s i a image dst L = after (stores_at s i a image dst L) (lane_in image L)

-- The image after one instruction: every lane from the image before, at address a,
unfoldable pub image_at : Settings → Insn → ℕ → List ℕ → List ℕ → List ℕ
image_at s i a image dst = of_lanes (lane_after s i a image dst)

-- which the cursor gives.
unfoldable pub image_after : Settings → Insn → ℕ → List ℕ → List ℕ → List ℕ
image_after s i cursor image dst = image_at s i (address i.imm s.offset cursor) image dst

-- The Dst in which each lane L has the two cells `made L` at address a: of the 16,384 cells, each that the address meets is its owner's, and each other is
-- as before. No order of lanes comes into it.
unfoldable pub with_cells : ℕ → List ℕ → (ℕ → Cells) → List ℕ
with_cells a dst made =
    build 16384 (λ p. pick (is_met a p) (pick (p % 2 == 1) (made (owner_of p)).odd (made (owner_of p)).even) (slice_index dst p))

-- The two cells of lane L after one instruction, at address a.
unfoldable pub cells_after : Insn → ℕ → List ℕ → List ℕ → ℕ → Cells
cells_after i a image dst L =
    cells_of i.op a i L (bit (lane_in image (head_of L) lane_config) 5) (even_cell dst a L) (odd_cell dst a L) (lane_in image L)

-- The Dst after one instruction, at address a,
unfoldable pub dst_at : Insn → ℕ → List ℕ → List ℕ → List ℕ
dst_at i a image dst = with_cells a dst (cells_after i a image dst)

-- which the cursor gives.
unfoldable pub dst_after : Settings → Insn → ℕ → List ℕ → List ℕ → List ℕ
dst_after s i cursor image dst = dst_at i (address i.imm s.offset cursor) image dst

-- The cursor after one instruction.
abbrev pub cursor_after : Settings → Insn → ℕ → ℕ
cursor_after s i cursor = next_cursor i.op cursor (stride s i.vb)

-- One instruction.
unfoldable pub stepped : Settings → Insn → Machine → Machine
stepped s i m =
    record {
      image = image_after s i m.cursor m.image m.dst;
      dst = dst_after s i m.cursor m.image m.dst;
      cursor = cursor_after s i m.cursor;
    }

-- The first n instructions of a list.
unfoldable pub steps : Settings → List ℕ → ℕ → Machine → Machine
steps s list zero m = m
steps s list (suc n) m = stepped s (insn_at list n) (steps s list n m)

-- What a run begins with: an image and a Dst, and the given cursor.
abbrev pub begin : Settings → List ℕ → List ℕ → Machine
begin s image dst = record { image = image; dst = dst; cursor = s.cursor }

-- The whole list.
abbrev pub finish : Settings → List ℕ → List ℕ → List ℕ → Machine
finish s image dst list = steps s list (count_of list) (begin s image dst)

-- Document 02, M-102: 1 where lane L met an equal pair in one instruction, else 0: the lane as it was before the instruction.
abbrev pub tie_in : Insn → List ℕ → ℕ → ℕ
tie_in i image L = flag_of (is_tied i.op i L (lane_in image L))

-- Document 02, M-106: "the number of stores to registers 0 to 7 and 11 to 14 made by the rules", of lane L in one instruction, at address a.
abbrev pub stores_in : Settings → Insn → ℕ → List ℕ → List ℕ → ℕ → ℕ
stores_in s i a image dst L = register_stores (stores_at s i a image dst L)

-- Both of the machine before the instruction.
abbrev pub ties_by : Insn → Machine → ℕ → ℕ
ties_by i m = tie_in i m.image

abbrev pub stores_by : Settings → Insn → Machine → ℕ → ℕ
stores_by s i m = stores_in s i (address i.imm s.offset m.cursor) m.image m.dst

-- What the four lanes of column c have together: lanes c, 8 + c, 16 + c and 24 + c.
abbrev pub over_column : (ℕ → ℕ) → ℕ → ℕ
over_column f c = f c + f (8 + c) + f (16 + c) + f (24 + c)

-- "for each of the eight columns separately, .. summed over the list": column c's count over the first n instructions, where lane L has `more i m L` to count
-- in instruction i, m being the machine before it.
unfoldable pub count_after : (Insn → Machine → ℕ → ℕ) → Settings → List ℕ → ℕ → Machine → ℕ → ℕ
count_after more s list zero m c = 0
count_after more s list (suc n) m c = count_after more s list n m c + over_column (more (insn_at list n) (steps s list n m)) c

-- The eight counts of a whole list: the ties, and the stores.
abbrev pub counts_of : (Insn → Machine → ℕ → ℕ) → Settings → List ℕ → List ℕ → List ℕ → List ℕ
counts_of more s image dst list = build 8 (count_after more s list (count_of list) (begin s image dst))

abbrev pub ties_of : Settings → List ℕ → List ℕ → List ℕ → List ℕ
ties_of s image dst list = counts_of ties_by s image dst list

abbrev pub stores_made : Settings → List ℕ → List ℕ → List ℕ → List ℕ
stores_made s image dst list = counts_of (stores_by s) s image dst list

-- "0 on refusal", of either.
abbrev pub no_counts : List ℕ
no_counts = build 8 (λ c. 0)

-- "Done returns 0, steps equal to the number of instructions, place 0 and the final cursor."
abbrev pub when_done : Settings → List ℕ → List ℕ → List ℕ → Outcome
when_done s image dst list =
    record {
      answer = 0;
      steps = count_of list;
      place = 0;
      cursor = (finish s image dst list).cursor;
      ties = ties_of s image dst list;
      stores = stores_made s image dst list;
    }

-- "A refusal returns its number, steps 0, the given cursor, and as place .."
abbrev pub when_refused : Settings → Found → Outcome
when_refused s f = record { answer = f.answer; steps = 0; place = f.place; cursor = s.cursor; ties = no_counts; stores = no_counts }

-- What a run returns.
unfoldable pub outcome_of : Settings → List ℕ → List ℕ → List ℕ → Outcome
outcome_of s image dst list =
    pick ((run_answer s image dst list).answer == 0) (when_done s image dst list) (when_refused s (run_answer s image dst list))

-- The image afterwards; a refusal leaves it untouched.
unfoldable pub run_image : Settings → List ℕ → List ℕ → List ℕ → List ℕ
run_image s image dst list = pick ((run_answer s image dst list).answer == 0) (finish s image dst list).image image

-- The Dst afterwards; a refusal leaves it untouched too.
unfoldable pub run_dst : Settings → List ℕ → List ℕ → List ℕ → List ℕ
run_dst s image dst list = pick ((run_answer s image dst list).answer == 0) (finish s image dst list).dst dst

-- Demand 2's rules: a run of a list over an image and a Dst has this outcome, and leaves this image and this Dst.
pub record Ran (s : Settings) (image dst list : List ℕ) (outcome : Outcome) (after stored : List ℕ) : Type 0 where
  pub outcome_is : outcome ≡ outcome_of s image dst list
  pub image_is : after ≡ run_image s image dst list
  pub dst_is : stored ≡ run_dst s image dst list

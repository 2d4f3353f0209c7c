-- Document 01, "The clerk's numbers": the checks of a run, and of a list alone, in their order.
use Rattle.std.specs.Prelude.{ℕ, zero, suc, ◌+◌, ◌*◌, ◌/◌, ◌%◌, true, List, length, ◌==◌, nat_le, slice_index, Result, Ok, Err, ⊤}
use Rattle.lane.specs.declared.Settings.{Settings}
use Rattle.lane.specs.declared.Insn.{Insn}
use Rattle.lane.specs.Words.{pick}
use Rattle.lane.specs.Refusals.{number, pass, settings_good, instruction_answer}
use Rattle.runner.specs.declared.Refused.{Refused}
use Rattle.runner.specs.Image.{image_good}

-- "The list holds six 32-bit numbers an instruction: op, imm, vb, vc, vd, mod."
unfoldable pub insn_at : List ℕ → ℕ → Insn
insn_at list k =
    record {
      op = slice_index list (6 * k);
      imm = slice_index list (6 * k + 1);
      vb = slice_index list (6 * k + 2);
      vc = slice_index list (6 * k + 3);
      vd = slice_index list (6 * k + 4);
      md = slice_index list (6 * k + 5);
    }

-- How many instructions a list holds.
abbrev pub count_of : List ℕ → ℕ
count_of list = length list / 6

-- A number of the clerk's with its place: "as place the instruction's index from 0 (for 7 to 9; else 0 ..)".
pub record Found : Type 0 where
  pub answer : ℕ
  pub place : ℕ

abbrev pub found : ℕ → ℕ → Found
found n p = record { answer = n; place = p }

-- What a check found: 0 where nothing is refused.
abbrev pub found_by : Result ⊤ Refused → Found
found_by (Ok _) = found 0 0
found_by (Err r) = found (number r.why) r.place

-- "the instructions in turn, 7 before 8 before 9 within one": the first refused of the n instructions from k on.
unfoldable pub scan : List ℕ → ℕ → ℕ → Found
scan list k zero = found 0 0
scan list k (suc n) =
    pick (instruction_answer true (insn_at list k) == 0) (scan list (k + 1) n) (found (instruction_answer true (insn_at list k)) k)

-- 7, 8 and 9 over a whole list.
abbrev pub scanned : List ℕ → Found
scanned list = scan list 0 (count_of list)

-- Document 02, M-105: "The library's limit becomes 16,384 instructions." Said here, and nowhere else.
abbrev pub list_limit : ℕ
list_limit = 16384

-- "3 a setting outside its range", "4 list length not a multiple of six", 5 more instructions than the limit, in that order; 0 where none is given.
unfoldable pub given_answer : Settings → List ℕ → ℕ
given_answer s list = pass (settings_good s) 3 (pass (length list % 6 == 0) 4 (pass (nat_le (count_of list) list_limit) 5 0))

-- "1 to 6 are tried in that order": 1 and 2, those, then "6 image not well formed".
unfoldable pub first_answer : Settings → List ℕ → List ℕ → List ℕ → ℕ
first_answer s image dst list =
    pass (length image == 768) 1
    (pass (length dst == 16384) 2 (pick (given_answer s list == 0) (pass (image_good image) 6 0) (given_answer s list)))

-- "then the instructions in turn", where none of those was given.
unfoldable pub then_scanned : ℕ → List ℕ → Found
then_scanned n list = pick (n == 0) (scanned list) (found n 0)

-- A run's checks: 1 to 6, then 7, 8 and 9.
unfoldable pub run_answer : Settings → List ℕ → List ℕ → List ℕ → Found
run_answer s image dst list = then_scanned (first_answer s image dst list) list

-- The checks of a list alone, which are the writer's: 3, 4, 5, then 7, 8 and 9.
unfoldable pub list_answer : Settings → List ℕ → Found
list_answer s list = then_scanned (given_answer s list) list

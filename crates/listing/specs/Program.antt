-- Document 01, "Listings", and document 02, M-105: the program, from a listing's bytes to the report's, or to the same listing in the format that is written.
use Rattle.std.specs.Prelude.{ℕ, List, [], length, replicate, leb, eqb}
use Rattle.lane.specs.declared.Settings.{Settings}
use Rattle.lane.specs.Words.{pick}
use Rattle.runner.specs.Run.{outcome_of, run_image}
use Rattle.listing.specs.declared.Reading.{Reading}
use Rattle.listing.specs.Listing.{Read, refuse_read, read_text, listing}
use Rattle.listing.specs.Report.{Printed, report}

-- "The program still holds at most 1,024 instructions", of six words each, "and 65,536 bytes in either format."
abbrev pub held_words : ℕ
held_words = 6144

abbrev pub held_bytes : ℕ
held_bytes = 65536

-- A listing that is held: longer texts are 11 first of all, longer lists for want of room, last of all.
unfoldable pub read_held : List ℕ → Read
read_held text = pick (leb (length text) held_bytes) (read_text held_words text) (refuse_read 11 0 0)

-- "The program starts from an image and Dst of zeros".
abbrev pub zero_image : List ℕ
zero_image = replicate 768 0

abbrev pub zero_dst : List ℕ
zero_dst = replicate 16384 0

-- The report of a run from there.
unfoldable pub run_report : Settings → List ℕ → Printed
run_report s list =
    report (outcome_of s zero_image zero_dst list).answer (outcome_of s zero_image zero_dst list).steps (outcome_of s zero_image zero_dst list).place
    (outcome_of s zero_image zero_dst list).cursor
    zero_image
    (run_image s zero_image zero_dst list)

-- The report of a reading that was refused.
unfoldable pub refusal_report : Reading → Printed
refusal_report r = report r.answer r.steps r.place r.cursor [] []

-- A listing that was read is run; one that was not is reported.
unfoldable pub report_of : Read → Printed
report_of r = pick (eqb r.reading.answer 0) (run_report r.reading.settings r.list) (refusal_report r.reading)

-- The program's whole output.
unfoldable pub output : List ℕ → Printed
output text = report_of (read_held text)

-- A listing that was read is written again; one that was not is reported.
unfoldable pub rewriting_of : Read → Printed
rewriting_of r =
    pick (eqb r.reading.answer 0) (record { answer = 0; bytes = listing r.reading.settings r.list }) (refusal_report r.reading)

-- The program's whole output where it is asked to rewrite.
unfoldable pub rewritten : List ℕ → Printed
rewritten text = rewriting_of (read_held text)

-- The length that a reading or a writing returns is small, and a run's outcome is twenty words. Assumes nothing.
use Prim.Native.Nat.{ℕ, suc, ◌*◌, ◌≤◌}
use mathlib.Core.Path.{◌≡◌, refl, ap, ◌∙◌}
use mathlib.Core.Bool.{Bool, true, false}
use mathlib.Core.List.{List}
use lib.ListN.{length, length-append}
use borrow.Author.Tests.{eqb-true}
use native.Mathlib.Omega.{arith}
use Rattle.lane.specs.declared.Settings.{Settings}
use Rattle.lane.specs.Words.{pick}
use Rattle.listing.specs.declared.Reading.{Reading}
use Rattle.listing.specs.declared.Writing.{Writing}
use Rattle.listing.specs.Forms.{Scan, taken, faulty, scan}
use Rattle.listing.specs.Listing.{Format, written, format_of, head, lines, settings_of, count_in, Read, Write, refused_reading, accepted_reading, read_list, read_rest, read_header, read_as, text_limit, read_text, refused_writing, accepted_writing, write_list}
use Rattle.runner.specs.Checks.{list_limit}
use Rattle.runner.specs.Run.{outcome_of}
use Rattle.runner.proofs.Accepted.{listed}
use Rattle.runner.proofs.Steps.{eight_counts}
use Rattle.listing.proofs.FormatTable.{two_sound}
use Rattle.listing.proofs.Writers.{few_words, listing_short}
use Rattle.host.specs.Words.{outcome_words}

read_either : (b : Bool) (x y : Read) (n : ℕ) → (b ≡ true → x.reading.length ≤ n) → y.reading.length ≤ n → (pick b x y).reading.length ≤ n
unfolding pick
read_either true x y n h k = h refl
read_either false x y n h k = k

list_short : (room : ℕ) (s : Settings) (list : List ℕ) → (read_list room s list).reading.length ≤ 6 * list_limit
unfolding read_list refused_reading accepted_reading
list_short room s list =
    read_either _ _ _ (6 * list_limit) (λ e. read_either _ _ _ (6 * list_limit) (λ _. few_words s list (eqb-true _ _ e)) (omega arith)) (omega arith)

rest_short : (f : Format) (room : ℕ) (ns : List ℕ) (c : Scan) → (read_rest f room ns c).reading.length ≤ 6 * list_limit
unfolding read_rest refused_reading
rest_short f room ns (faulty k) = omega arith
rest_short f room ns (taken list extra) = read_either _ _ _ (6 * list_limit) (λ _. list_short room (settings_of ns) list) (omega arith)

header_short : (f : Format) (room : ℕ) (c : Scan) → (read_header f room c).reading.length ≤ 6 * list_limit
unfolding read_header refused_reading
header_short f room (faulty k) = omega arith
header_short f room (taken ns rest) =
    read_either _ _ _ (6 * list_limit) (λ _. rest_short f room ns (scan (lines (count_in ns)) rest)) (omega arith)

read_short : (room : ℕ) (t : List ℕ) → (read_text room t).reading.length ≤ 6 * list_limit
unfolding read_text read_as refused_reading
read_short room t = read_either _ _ _ (6 * list_limit) (λ _. header_short (format_of t) room (scan (head (format_of t)) t)) (omega arith)

pub read_fits : (room : ℕ) (t : List ℕ) (r : Reading) → r ≡ (read_text room t).reading → r.length ≤ 6 * list_limit
read_fits room t r e = rw e (read_short room t)

write_either : (b : Bool) (x y : Write) (n : ℕ) → (b ≡ true → x.writing.length ≤ n) → y.writing.length ≤ n → (pick b x y).writing.length ≤ n
unfolding pick
write_either true x y n h k = h refl
write_either false x y n h k = k

write_short : (room : ℕ) (s : Settings) (list : List ℕ) → (write_list room s list).writing.length ≤ text_limit
unfolding write_list refused_writing accepted_writing
write_short room s list =
    write_either _ _ _ text_limit
    (λ e.
    write_either _ _ _ text_limit (λ _. listing_short written two_sound s list (listed s list (eqb-true _ _ e)).checked.few) (omega arith))
    (omega arith)

pub write_fits : (room : ℕ) (s : Settings) (list : List ℕ) (r : Writing) → r ≡ (write_list room s list).writing → r.length ≤ text_limit
write_fits room s list r e = rw e (write_short room s list)

pub twenty_words : (s : Settings) (image dst list : List ℕ) → length (outcome_words (outcome_of s image dst list)) ≡ 20
unfolding outcome_words
twenty_words s image dst list =
    let eight = eight_counts s image dst list in
    ap (λ (n : ℕ). suc (suc (suc (suc n)))) (length-append (outcome_of s image dst list).ties (outcome_of s image dst list).stores ∙ cc (eight.0, eight.1))

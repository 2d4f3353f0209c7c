-- What a reading that is accepted gives the run, and the program's output from it. Assumes nothing.
use mathlib.Core.Path.{◌≡◌, refl, sym, ap, ◌∙◌}
use Prim.Native.Nat.{ℕ, ◌+◌, ◌<◌, ◌≤◌}
use native.Mathlib.Nat.{lt_of_not-le}
use native.Mathlib.Decide.{dec_le}
use mathlib.Core.Bool.{Bool, true, false}
use mathlib.Core.List.{List}
use lib.ListN.{length, take, drop}
use lib.Seq.{take_at}
use lib.Dec.{leb, eqb}
use borrow.Author.Tests.{le-leb, lt-leb, leb-true, eqb-true, eqb-false, eq-eqb, ne_eqb}
use Rattle.lane.specs.declared.Settings.{Settings}
use Rattle.lane.specs.Words.{pick}
use Rattle.lane.proofs.Cases.{pick_true, pick_false}
use Rattle.runner.specs.Checks.{list_answer}
use Rattle.listing.specs.declared.Reading.{Reading}
use Rattle.listing.specs.Forms.{Scan, taken, faulty, scan}
use Rattle.listing.specs.Listing.{Format, Read, refuse_read, refused_reading, accepted_reading, format_of, head, first_line, lines, count_in, settings_of, in_front, read_list, read_rest, read_header, read_as, text_limit, read_text, Write, listing, refused_writing, accepted_writing, write_list}
use Rattle.listing.proofs.Reports.{reports_whole, reports_short}
use Rattle.listing.proofs.Writers.{write_done, write_short}
use Rattle.listing.specs.declared.Writing.{Writing}
use Rattle.listing.specs.Report.{Printed, Reports}
use Rattle.listing.specs.Program.{held_words, held_bytes, read_held, run_report, refusal_report, report_of, output, rewriting_of, rewritten}

-- an accepted reading's length is its list's, which fits the room and was checked
pub record Fits (room : ℕ) (r : Read) : Type 0 where
  pub length_is : r.reading.length ≡ length r.list
  pub enough : length r.list ≤ room
  pub checked : (list_answer r.reading.settings r.list).answer ≡ 0

abbrev Shape : ℕ → Read → Type 0
Shape room r = r.reading.answer ≡ 0 → Fits room r

refused : (room n p c : ℕ) → (n ≡ 0 → ⊥) → Shape room (refuse_read n p c)
unfolding refused_reading
refused room n p c h e = absurd (h e)

by_test : (room : ℕ) (t : Bool) (x y : Read) → (t ≡ true → Shape room x) → (t ≡ false → Shape room y) → Shape room (pick t x y)
unfolding pick
by_test room true x y h k = h refl
by_test room false x y h k = k refl

list_fits : (room : ℕ) (s : Settings) (list : List ℕ) → Shape room (read_list room s list)
unfolding read_list accepted_reading
list_fits room s list =
    by_test room (eqb (list_answer s list).answer 0) (pick (leb (length list) room) read (refuse_read 11 0 0))
    (refuse_read (list_answer s list).answer (list_answer s list).place s.cursor)
    (λ a.
    by_test room (leb (length list) room) read (refuse_read 11 0 0)
    (λ b e. record { length_is = refl; enough = leb-true (length list) room b; checked = eqb-true (list_answer s list).answer 0 a })
    (λ b. refused room 11 0 0 (eqb-false 11 0 refl)))
    (λ a. refused room (list_answer s list).answer (list_answer s list).place s.cursor (eqb-false (list_answer s list).answer 0 a))
  where
    read : Read
    read = record { reading = accepted_reading s (length list); list = list }

rest_fits : (f : Format) (room : ℕ) (ns : List ℕ) (x : Scan) → Shape room (read_rest f room ns x)
unfolding read_rest
rest_fits f room ns (faulty k) = refused room 10 _ 0 (eqb-false 10 0 refl)
rest_fits f room ns (taken list extra) =
    by_test room (eqb (length extra) 0) (read_list room (settings_of ns) list) (refuse_read 10 (first_line f + count_in ns) 0) (λ a. list_fits room (settings_of ns) list) (λ a. refused room 10 _ 0 (eqb-false 10 0 refl))

header_fits : (f : Format) (room : ℕ) (x : Scan) → Shape room (read_header f room x)
unfolding read_header
header_fits f room (faulty k) = refused room 10 _ 0 (eqb-false 10 0 refl)
header_fits f room (taken ns rest) =
    by_test room (leb (count_in ns) f.limit) (read_rest f room ns (scan (lines (count_in ns)) rest)) (refuse_read 5 0 (settings_of ns).cursor) (λ a. rest_fits f room ns (scan (lines (count_in ns)) rest))
    (λ a. refused room 5 0 _ (eqb-false 5 0 refl))

pub text_fits : (room : ℕ) (t : List ℕ) → Shape room (read_text room t)
unfolding read_text read_as
text_fits room t =
    by_test room (leb (length t) text_limit) (read_header (format_of t) room (scan (head (format_of t)) t)) (refuse_read 11 0 0) (λ a. header_fits (format_of t) room (scan (head (format_of t)) t))
    (λ a. refused room 11 0 0 (eqb-false 11 0 refl))

held_fits : (t : List ℕ) → Shape held_words (read_held t)
unfolding read_held
held_fits t =
    by_test held_words (leb (length t) held_bytes) (read_text held_words t) (refuse_read 11 0 0) (λ a. text_fits held_words t) (λ a. refused held_words 11 0 0 (eqb-false 11 0 refl))

-- the list in front of the room is the list that was read
pub front : (xs room : List ℕ) (n : ℕ) → n ≡ length xs → take n (in_front xs room) ≡ xs
front xs room n e = take_at xs (drop (length xs) room) n (sym e)

-- ---- what is held

module _ (text : List ℕ) where
  pub held_long : held_bytes < length text → read_held text ≡ refuse_read 11 0 0
  unfolding read_held
  held_long h = pick_false _ _ _ (lt-leb (length text) held_bytes h)

  pub held_short : length text ≤ held_bytes → read_held text ≡ read_text held_words text
  unfolding read_held
  held_short h = pick_true _ _ _ (le-leb (length text) held_bytes h)

-- ---- the output

module _ (text : List ℕ) (r : Reading) (e : r ≡ (read_held text).reading) where
  done : r.answer ≡ 0 → eqb (read_held text).reading.answer 0 ≡ true
  done h = eq-eqb (read_held text).reading.answer 0 (sym (ap (λ (x : Reading). x.answer) e) ∙ h)

  not_done : (r.answer ≡ 0 → ⊥) → eqb (read_held text).reading.answer 0 ≡ false
  not_done h = ne_eqb (read_held text).reading.answer 0 (λ z. h (ap (λ (x : Reading). x.answer) e ∙ z))

  pub output_run : (list : List ℕ) → r.answer ≡ 0 → list ≡ (read_held text).list → run_report r.settings list ≡ output text
  unfolding output report_of
  output_run list h p =
      ap (λ (x : Reading). run_report x.settings list) e ∙ ap (λ (x : List ℕ). run_report (read_held text).reading.settings x) p
      ∙ sym (pick_true (eqb (read_held text).reading.answer 0) _ _ (done h))

  pub output_refused : (r.answer ≡ 0 → ⊥) → refusal_report r ≡ output text
  unfolding output report_of
  output_refused h = ap refusal_report e ∙ sym (pick_false (eqb (read_held text).reading.answer 0) _ _ (not_done h))

  pub rewritten_read : (list : List ℕ) → r.answer ≡ 0 → list ≡ (read_held text).list
      → record { answer = 0; bytes = listing r.settings list } ≡ rewritten text
  unfolding rewritten rewriting_of
  rewritten_read list h p =
      ap (λ (x : Reading). record { answer = 0; bytes = listing x.settings list }) e
      ∙ ap (λ (x : List ℕ). record { answer = 0; bytes = listing (read_held text).reading.settings x }) p
      ∙ sym (pick_true {X = Printed} (eqb (read_held text).reading.answer 0) _ _ (done h))

  pub rewritten_refused : (r.answer ≡ 0 → ⊥) → refusal_report r ≡ rewritten text
  unfolding rewritten rewriting_of
  rewritten_refused h = ap refusal_report e ∙ sym (pick_false (eqb (read_held text).reading.answer 0) _ _ (not_done h))

  pub output_fits : r.answer ≡ 0 → (r.length ≡ length (read_held text).list) × (length (read_held text).list ≤ held_words)
  output_fits h =
      let f = held_fits text (sym (ap (λ (x : Reading). x.answer) e) ∙ h) in (ap (λ (x : Reading). x.length) e ∙ f.length_is, f.enough)

  -- what stands in front of the program's own room is the list that was read
  pub held_list : r.answer ≡ 0 → (before after : List ℕ) → after ≡ in_front (read_held text).list before → take r.length after ≡ (read_held text).list
  held_list h before after p = ap (take r.length) p ∙ front (read_held text).list before r.length (output_fits h).0

  -- and it was checked
  pub held_accepted : (list : List ℕ) → r.answer ≡ 0 → list ≡ (read_held text).list → (list_answer r.settings list).answer ≡ 0
  held_accepted list h p =
      let f = held_fits text (sym (ap (λ (x : Reading). x.answer) e) ∙ h) in
      ap (λ (x : List ℕ). (list_answer r.settings x).answer) p
      ∙ ap (λ (x : Reading). (list_answer x.settings (read_held text).list).answer) e
      ∙ f.checked

-- ---- a listing written as a report is

pub writes_report : (s : Settings) (list before after : List ℕ) (w : Writing) → (list_answer s list).answer ≡ 0 → w ≡ (write_list (length before) s list).writing
    → after ≡ in_front (write_list (length before) s list).bytes before
    → Reports (record { answer = 0; bytes = listing s list }) before after (record { answer = w.answer; length = w.length })
unfolding accepted_writing refused_writing
writes_report s list before after w h e p = go (dec_le (length (listing s list)) (length before))
  where
    go : Dec (length (listing s list) ≤ length before)
        → Reports (record { answer = 0; bytes = listing s list }) before after (record { answer = w.answer; length = w.length })
    go (yes l) =
        let q = write_done (length before) s list (list_answer s list) refl h l in
        rw (e ∙ ap (λ (x : Write). x.writing) q) (reports_whole (record { answer = 0; bytes = listing s list }) before _ after refl l (p ∙ ap (λ (x : Write). in_front x.bytes before) q))
    go (no n) =
        let q = write_short (length before) s list (list_answer s list) refl h (lt_of_not-le n) in
        rw (e ∙ ap (λ (x : Write). x.writing) q, p ∙ ap (λ (x : Write). in_front x.bytes before) q) (reports_short (record { answer = 0; bytes = listing s list }) before (lt_of_not-le n))

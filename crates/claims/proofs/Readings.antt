-- What a text holds that a reading accepts. Assumes nothing.
use mathlib.Core.Path.{◌≡◌, refl, sym, ap, ◌∙◌}
use Prim.Native.Nat.{ℕ, zero, suc, ◌+◌, ◌<◌, ◌≤◌}
use native.Mathlib.Omega.{arith}
use mathlib.Core.Bool.{Bool, true, false}
use mathlib.Core.List.{List, [], ◌∷◌, ◌++◌, append-nil}
use lib.ListN.{length, get_or}
use lib.Seq.{ext_get_or}
use lib.Dec.{eqb, leb}
use borrow.Author.Tests.{eqb-true, eqb-false, leb-true}
use Rattle.lane.specs.declared.Settings.{Settings}
use Rattle.lane.specs.Words.{pick}
use Rattle.runner.specs.Checks.{count_of, list_answer}
use Rattle.listing.specs.Forms.{Scan, taken, faulty, scan, render}
use Rattle.listing.specs.Listing.{Format, formats, written, format_of, head, first_line, lines, header_of, settings_of, count_in, listing_in, listing, Read, refused_reading, refuse_read, accepted_reading, read_list, read_rest, read_header, read_as, text_limit, read_text}
use Rattle.listing.proofs.FormatTable.{lines_numbers, text_sound}
use Rattle.listing.proofs.Readers.{read_headed, read_on, read_list_done}
use Rattle.listing.proofs.Trips.{scan_whole, scan_render}
use Rattle.listing.specs.Report.{report}
use Rattle.listing.specs.Program.{held_words, held_bytes, read_held, report_of, output, refusal_report, rewriting_of, rewritten}
use Rattle.listing.proofs.Programs.{held_short}
use Rattle.listing.proofs.Writers.{listing_length, lines_few, listing_short}
use Rattle.runner.proofs.Accepted.{listed}
use Rattle.claims.specs.Claims.{Among}
use Rattle.claims.proofs.Table.{two_among, each_sound}
use Rattle.claims.proofs.Ranges.{list_fits}

-- ---- written, and read

module _ (f : Format) (m : Among f formats) (room : ℕ) (s : Settings) (list : List ℕ) where
  pub read_in_format : (list_answer s list).answer ≡ 0 → count_of list ≤ f.limit → length list ≤ room
      → read_text room (listing_in f s list) ≡ record { reading = accepted_reading s (length list); list = list }
  unfolding listing_in header_of settings_of
  read_in_format e few h =
      let a = (listed s list e).checked in
      let d = each_sound f m in
      let g = list_fits f m s list e few in
      let c = count_of list in
      let own : format_of (listing_in f s list) ≡ f = d.own (header_of s c) (render (lines c) list) in
      let b : scan (lines c) (render (lines c) list) ≡ taken list [] = ap (scan (lines c)) (sym (append-nil (render (lines c) list))) ∙ scan_render (lines c) list [] g.1 in
      read_headed room (listing_in f s list) (listing_short f d.sound s list a.few) (header_of s c) (render (lines c) list)
      (ap (λ (x : Format). scan (head x) (listing_in f s list)) own ∙ scan_render (head f) (header_of s c) (render (lines c) list) g.0)
      ∙ ap (λ (x : Format). read_header x room (taken (header_of s c) (render (lines c) list))) own
      ∙ read_on f room (header_of s c) (render (lines c) list) few list [] b refl
      ∙ read_list_done room s list e h

pub read_listing : (room : ℕ) (s : Settings) (list : List ℕ) → (list_answer s list).answer ≡ 0 → length list ≤ room
    → read_text room (listing s list) ≡ record { reading = accepted_reading s (length list); list = list }
read_listing room s list e h = read_in_format written two_among room s list e (listed s list e).checked.few h

-- ---- read: what the text holds

pub record Held (room : ℕ) (t : List ℕ) : Type 0 where
  pub ns : List ℕ
  pub list : List ℕ
  pub rest : List ℕ
  pub headed : scan (head (format_of t)) t ≡ taken ns rest
  pub few : count_in ns ≤ (format_of t).limit
  pub lined : scan (lines (count_in ns)) rest ≡ taken list []
  pub good : (list_answer (settings_of ns) list).answer ≡ 0
  pub roomy : length list ≤ room
  pub reads : read_text room t ≡ record { reading = accepted_reading (settings_of ns) (length list); list = list }

kept : (b : Bool) (x y : Read) → (y.reading.answer ≡ 0 → ⊥) → (pick b x y).reading.answer ≡ 0 → (b ≡ true) × (x.reading.answer ≡ 0)
unfolding pick
kept true x y n e = (refl, e)
kept false x y n e = absurd (n e)

held_list : (room : ℕ) (s : Settings) (list : List ℕ) → (read_list room s list).reading.answer ≡ 0
    → ((list_answer s list).answer ≡ 0) × (length list ≤ room)
unfolding read_list refused_reading pick
held_list room s list e = go (eqb (list_answer s list).answer 0) refl e
  where
    go : (b : Bool) → eqb (list_answer s list).answer 0 ≡ b
        → (pick b (pick (leb (length list) room) (record { reading = accepted_reading s (length list); list = list }) (refuse_read 11 0 0))
        (refuse_read (list_answer s list).answer (list_answer s list).place s.cursor)).reading.answer ≡ 0
        → ((list_answer s list).answer ≡ 0) × (length list ≤ room)
    go true q d = (
      eqb-true _ _ q,
      leb-true _ _ (kept (leb (length list) room) (record { reading = accepted_reading s (length list); list = list }) (refuse_read 11 0 0) (eqb-false 11 0 refl) d).0,
    )
    go false q d = absurd (eqb-false _ _ q d)

none_left : (l : List ℕ) → length l ≡ 0 → l ≡ []
none_left [] e = refl
none_left (x ∷ l) e = absurd (no (length l) e)
  where
    no : (n : ℕ) → suc n ≡ 0 → ⊥
    no n q = omega arith

held_rest : (f : Format) (room : ℕ) (ns : List ℕ) (s : Scan) → (read_rest f room ns s).reading.answer ≡ 0
    → (list : List ℕ) × ((s ≡ taken list []) × ((read_list room (settings_of ns) list).reading.answer ≡ 0))
unfolding read_rest refused_reading
held_rest f room ns (faulty k) e = absurd (eqb-false 10 0 refl e)
held_rest f room ns (taken list extra) e =
    let q = kept (eqb (length extra) 0) (read_list room (settings_of ns) list) (refuse_read 10 (first_line f + count_in ns) 0) (eqb-false 10 0 refl) e in
    (list, (ap (taken list) (none_left extra (eqb-true _ _ q.0)), q.1))

held_header : (room : ℕ) (t : List ℕ) → length t ≤ text_limit → (s : Scan) → scan (head (format_of t)) t ≡ s
    → (read_header (format_of t) room s).reading.answer ≡ 0 → Held room t
unfolding read_header refused_reading
held_header room t h (faulty k) e d = absurd (eqb-false 10 0 refl d)
held_header room t h (taken ns rest) e d =
    let f = format_of t in
    let q = kept (leb (count_in ns) f.limit) (read_rest f room ns (scan (lines (count_in ns)) rest)) (refuse_read 5 0 (settings_of ns).cursor) (eqb-false 5 0 refl) d in
    let r = held_rest f room ns (scan (lines (count_in ns)) rest) q.1 in
    let l = held_list room (settings_of ns) r.0 r.1.1 in
    record {
      ns = ns;
      list = r.0;
      rest = rest;
      headed = e;
      few = leb-true _ _ q.0;
      lined = r.1.0;
      good = l.0;
      roomy = l.1;
      reads =
          read_headed room t h ns rest e
          ∙ read_on f room ns rest (leb-true _ _ q.0) r.0 [] r.1.0 refl
          ∙ read_list_done room (settings_of ns) r.0 l.0 l.1;
    }

pub held : (room : ℕ) (t : List ℕ) → (read_text room t).reading.answer ≡ 0 → Held room t
unfolding read_text read_as refused_reading
held room t e =
    let q = kept (leb (length t) text_limit) (read_header (format_of t) room (scan (head (format_of t)) t)) (refuse_read 11 0 0) (eqb-false 11 0 refl) e in
    held_header room t (leb-true _ _ q.0) (scan (head (format_of t)) t) refl q.1

-- ---- read, and written

nine : (ns : List ℕ) → length ns ≡ 9 → header_of (settings_of ns) (count_in ns) ≡ ns
unfolding header_of settings_of
nine ns e =
    ext_get_or 0 (header_of (settings_of ns) (count_in ns)) ns (sym e) (λ i h. at i h)
  where
    at : (i : ℕ) → i < 9 → get_or (header_of (settings_of ns) (count_in ns)) i 0 ≡ get_or ns i 0
    at zero h = refl
    at (suc zero) h = refl
    at (suc (suc zero)) h = refl
    at (suc (suc (suc zero))) h = refl
    at (suc (suc (suc (suc zero)))) h = refl
    at (suc (suc (suc (suc (suc zero))))) h = refl
    at (suc (suc (suc (suc (suc (suc zero)))))) h = refl
    at (suc (suc (suc (suc (suc (suc (suc zero))))))) h = refl
    at (suc (suc (suc (suc (suc (suc (suc (suc zero)))))))) h = refl
    at (suc (suc (suc (suc (suc (suc (suc (suc (suc i))))))))) h = absurd (no i h)
      where
        no : (j : ℕ) → suc (suc (suc (suc (suc (suc (suc (suc (suc j)))))))) < 9 → ⊥
        no j l = omega arith

module _ (room : ℕ) (t : List ℕ) (h : Held room t) where
  -- the lines are as many as the header counts
  counted : count_of h.list ≡ count_in h.ns
  counted =
      omega (arith, (scan_whole (lines (count_in h.ns)) h.rest h.list [] h.lined).count, lines_numbers (count_in h.ns))

  pub held_few : count_of h.list ≤ (format_of t).limit
  held_few = rw counted h.few

  pub held_listing : t ≡ listing_in (format_of t) (settings_of h.ns) h.list
  unfolding listing_in
  held_listing =
      let a = scan_whole (head (format_of t)) t h.ns h.rest h.headed in
      let b = scan_whole (lines (count_in h.ns)) h.rest h.list [] h.lined in
      rw (counted, nine h.ns (a.count ∙ (text_sound t).nine))
      (a.spelt ∙ ap (λ (l : List ℕ). render (head (format_of t)) h.ns ++ l) (b.spelt ∙ append-nil (render (lines (count_in h.ns)) h.list)))

-- ---- read, and rewritten

pub read_rewritten : (room : ℕ) (t : List ℕ) → (read_text room t).reading.answer ≡ 0
    → read_text room (listing (read_text room t).reading.settings (read_text room t).list) ≡ read_text room t
unfolding accepted_reading
read_rewritten room t e =
    let h = held room t e in
    rw h.reads (read_listing room (settings_of h.ns) h.list h.good h.roomy)

-- what the program holds is read as the library reads it
held_same : (t : List ℕ) → (read_held t).reading.answer ≡ 0 → (read_held t ≡ read_text held_words t) × ((read_text held_words t).reading.answer ≡ 0)
unfolding read_held refused_reading
held_same t h =
    let k = kept (leb (length t) held_bytes) (read_text held_words t) (refuse_read 11 0 0) (eqb-false 11 0 refl) h in
    (held_short t (leb-true _ _ k.0), k.1)

-- and so is its rewritten form, which it holds too
held_rewritten : (t : List ℕ) → (read_held t).reading.answer ≡ 0 → read_held (listing (read_held t).reading.settings (read_held t).list) ≡ read_held t
unfolding accepted_reading
held_rewritten t h =
    let e = held_same t h in
    let r = held held_words t e.1 in
    let s = (read_text held_words t).reading.settings in
    let list = (read_text held_words t).list in
    let roomy : length list ≤ held_words = rw r.reads r.roomy in
    rw e.0
    (held_short (listing s list) (omega (arith, listing_length s list, lines_few list, roomy)) ∙ read_rewritten held_words t e.1)

pub report_rewritten : (t : List ℕ) → (rewritten t).answer ≡ 0 → output (rewritten t).bytes ≡ output t
unfolding rewritten rewriting_of output refusal_report report pick
report_rewritten t e = go (eqb (read_held t).reading.answer 0) refl e
  where
    go : (b : Bool) → eqb (read_held t).reading.answer 0 ≡ b
        → (pick b (record { answer = 0; bytes = listing (read_held t).reading.settings (read_held t).list }) (refusal_report (read_held t).reading)).answer ≡ 0
        → report_of (read_held (pick b (record { answer = 0; bytes = listing (read_held t).reading.settings (read_held t).list }) (refusal_report (read_held t).reading)).bytes)
        ≡ report_of (read_held t)
    go true q d = ap report_of (held_rewritten t (eqb-true _ _ q))
    go false q d = absurd (eqb-false _ _ q d)

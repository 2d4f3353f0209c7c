-- The line that 10 names. Assumes nothing.
use mathlib.Core.Path.{◌≡◌, refl, sym, ap, ◌∙◌}
use Prim.Native.Nat.{ℕ, zero, suc, ◌+◌, ◌-◌, ◌<◌, ◌≤◌}
use native.Mathlib.Nat.{add-zero}
use native.Mathlib.Omega.{arith}
use mathlib.Core.Bool.{Bool, true, false}
use mathlib.Core.List.{List, [], ◌∷◌, ◌++◌, append-nil}
use lib.ListN.{length}
use lib.Dec.{eqb, leb}
use borrow.Author.Tests.{eqb-false, leb-true}
use Rattle.lane.specs.declared.Settings.{Settings}
use Rattle.lane.specs.Words.{pick}
use Rattle.runner.specs.Checks.{list_answer}
use Rattle.runner.proofs.Accepted.{list_small}
use Rattle.listing.specs.Forms.{Form, Scan, taken, faulty, lines_in, scan, render}
use Rattle.claims.specs.Claims.{Among, first_lines, InForm, FirstFault}
use Rattle.listing.specs.Listing.{Format, formats, format_of, head, first_line, line, lines, settings_of, count_in, Read, refused_reading, refuse_read, accepted_reading, read_list, read_rest, read_header, read_as, text_limit, read_text}
use Rattle.listing.proofs.FormatTable.{line_lines}
use Rattle.listing.proofs.Joins.{lines_append}
use Rattle.claims.proofs.Lines.{blank, blank_fits, lines_same, completed, form_agrees, none_agrees}
use Rattle.claims.proofs.Table.{text_among, each_sound, same_format}
use Rattle.listing.proofs.Readers.{read_unheaded, read_headed, read_faulty, read_extra}
use Rattle.listing.proofs.Trips.{Fits, scan_whole, scan_render}

-- a text rendered from numbers that fit is in form
rendered : (f : Format) → Among f formats → (ns list : List ℕ) → Fits (head f) ns → Fits (lines (count_in ns)) list
    → InForm (render (head f) ns ++ render (lines (count_in ns)) list)
rendered f m ns list h l =
    record {
      ns = ns;
      rest = render (lines (count_in ns)) list;
      list = list;
      headed =
          ap (λ (x : Format). scan (head x) (render (head f) ns ++ render (lines (count_in ns)) list)) ((each_sound f m).own ns (render (lines (count_in ns)) list))
          ∙ scan_render (head f) ns (render (lines (count_in ns)) list) h;
      lined =
          ap (scan (lines (count_in ns))) (sym (append-nil (render (lines (count_in ns)) list)))
          ∙ scan_render (lines (count_in ns)) list [] l;
    }

-- a text in form that agrees with another in its first line has that one's head
same_head : (k : ℕ) (t t' : List ℕ) (f : InForm t') → first_lines (suc k) t ≡ first_lines (suc k) t' → scan (head (format_of t)) t' ≡ taken f.ns f.rest
same_head k t t' f e = ap (λ (x : Format). scan (head x) t') (sym (same_format k t t' e)) ∙ f.headed

lines_counted : (n : ℕ) → lines_in (lines n) ≡ n
unfolding lines lines_in
lines_counted zero = refl
lines_counted (suc n) = lines_append line (lines n) ∙ omega (arith, line_lines, lines_counted n)

-- n lines are the first n
first_of_lines : (n : ℕ) (list extra : List ℕ) → first_lines n (render (lines n) list ++ extra) ≡ first_lines n (render (lines n) list)
unfolding first_lines
first_of_lines n list extra =
    let k : lines_in (lines n) + 0 ≡ n = add-zero (lines_in (lines n)) ∙ lines_counted n in
    rw (k, append-nil (render (lines n) list)) at (lines_same (lines n) list 0 extra [] refl)

none_first : (l : List ℕ) → first_lines 1 l ≡ first_lines 1 [] → length l ≡ 0
unfolding first_lines
none_first [] e = refl
none_first (b ∷ l) e = let z : ◌≡◌ {A = ℕ} 0 1 = cc in absurd (no z)
  where
    no : ◌≡◌ {A = ℕ} 0 1 → ⊥
    no q = omega arith

-- ---- a head that is not in form

head_fault : (t : List ℕ) (k : ℕ) → scan (head (format_of t)) t ≡ faulty k → FirstFault t (1 + k)
head_fault t k e =
    let h = head (format_of t) in
    let c = completed h t k e in
    let r = render (lines (count_in c.0)) (blank (lines (count_in c.0))) in
    let z : 1 + k - 1 ≡ k = omega arith in
    let o : 1 + k ≡ suc k = omega arith in
    record {
      some = (
        render h c.0 ++ r,
        (
          rendered (format_of t) (text_among t) c.0 (blank (lines (count_in c.0))) c.1.0 (blank_fits (lines (count_in c.0))),
          rw z (c.1.1 r),
        ),
      );
      none = λ t' f d. none_agrees h k t t' f.ns f.rest e (same_head k t t' f (rw o at d)) (rw o at d);
    }

-- ---- what follows a head

module _ (t ns rest : List ℕ) (headed : scan (head (format_of t)) t ≡ taken ns rest) where
  abbrev h : Form
  h = head (format_of t)

  -- texts that agree after the head agree with it
  with_head : (k : ℕ) (x : List ℕ) → first_lines k rest ≡ first_lines k x → first_lines (lines_in h + k) t ≡ first_lines (lines_in h + k) (render h ns ++ x)
  with_head k x e = ap (first_lines (lines_in h + k)) (scan_whole h t ns rest headed).spelt ∙ lines_same h ns k rest x e

  -- and a text in form that agrees past the head has the same head
  past_head : (k : ℕ) (t' : List ℕ) (f : InForm t') → first_lines (lines_in h + suc k) t ≡ first_lines (lines_in h + suc k) t'
      → (ns ≡ f.ns) × (first_lines (suc k) rest ≡ first_lines (suc k) f.rest)
  past_head k t' f d =
      let o : lines_in h + suc k ≡ suc (lines_in h + k) = omega arith in
      form_agrees h k t t' ns rest f.ns f.rest headed (same_head (lines_in h + k) t t' f (rw o at d)) d

  line_fault : (k : ℕ) → scan (lines (count_in ns)) rest ≡ faulty k → FirstFault t (first_line (format_of t) + k)
  unfolding first_line
  line_fault k e =
      let c = completed (lines (count_in ns)) rest k e in
      let z : 1 + lines_in h + k - 1 ≡ lines_in h + k = omega arith in
      let o : 1 + lines_in h + k ≡ lines_in h + suc k = omega arith in
      let w = scan_whole h t ns rest headed in
      record {
        some = (
          render h ns ++ render (lines (count_in ns)) c.0,
          (
            rendered (format_of t) (text_among t) ns c.0 w.fits c.1.0,
            rw z (with_head k (render (lines (count_in ns)) c.0) (rw append-nil at (c.1.1 []))),
          ),
        );
        none =
            λ t' f d.
            let p = past_head k t' f (rw o at d) in
            none_agrees (lines (count_in ns)) k rest f.rest f.list [] e (rw (← p.0) at f.lined) p.1;
      }

  extra_fault : (list extra : List ℕ) → scan (lines (count_in ns)) rest ≡ taken list extra → (length extra ≡ 0 → ⊥)
      → FirstFault t (first_line (format_of t) + count_in ns)
  unfolding first_line
  extra_fault list extra e n =
      let c = count_in ns in
      let z : 1 + lines_in h + c - 1 ≡ lines_in h + c = omega arith in
      let o : 1 + lines_in h + c ≡ lines_in h + suc c = omega arith in
      let w = scan_whole h t ns rest headed in
      let v = scan_whole (lines c) rest list extra e in
      record {
        some = (
          render h ns ++ render (lines c) list,
          (
            rendered (format_of t) (text_among t) ns list w.fits v.fits,
            rw z (with_head c (render (lines c) list) (ap (first_lines c) v.spelt ∙ first_of_lines c list extra)),
          ),
        );
        none =
            λ t' f d.
            let p = past_head c t' f (rw o at d) in
            let k : lines_in (lines c) + suc 0 ≡ suc c = omega (arith, lines_counted c) in
            let q = form_agrees (lines c) 0 rest f.rest list extra f.list [] e (rw (← p.0) at f.lined) (rw k p.1) in
            n (none_first extra q.1);
      }

-- ---- the line that 10 names

module _ (room : ℕ) (t : List ℕ) where
  named : (n : ℕ) → read_text room t ≡ refuse_read 10 n 0 → FirstFault t n → FirstFault t (read_text room t).reading.place
  unfolding refused_reading
  named n e f = rw e f

  not_ten : (n c : ℕ) (b : Bool) (x : Read) → (n ≡ 10 → ⊥) → (pick b x (refuse_read n 0 c)).reading.answer ≡ 10
      → (b ≡ true) × (x.reading.answer ≡ 10)
  unfolding pick refused_reading
  not_ten n c true x h e = (refl, e)
  not_ten n c false x h e = absurd (h e)

  list_not_ten : (s : Settings) (list : List ℕ) → (read_list room s list).reading.answer ≡ 10 → ⊥
  unfolding read_list refused_reading accepted_reading pick
  list_not_ten s list e = go (eqb (list_answer s list).answer 0) (leb (length list) room) e
    where
      go : (b d : Bool)
          → (pick b (pick d (record { reading = accepted_reading s (length list); list = list }) (refuse_read 11 0 0))
          (refuse_read (list_answer s list).answer (list_answer s list).place s.cursor)).reading.answer ≡ 10
          → ⊥
      go true true q = eqb-false 0 10 refl q
      go true false q = eqb-false 11 10 refl q
      go false d q = omega (arith, list_small s list)

  module _ (h : length t ≤ text_limit) where
    rest_fault : (ns rest : List ℕ) → scan (head (format_of t)) t ≡ taken ns rest → count_in ns ≤ (format_of t).limit → (s : Scan)
        → scan (lines (count_in ns)) rest ≡ s
        → (read_rest (format_of t) room ns s).reading.answer ≡ 10
        → FirstFault t (read_text room t).reading.place
    unfolding read_rest refused_reading pick
    rest_fault ns rest e few (faulty k) q d =
        named (first_line (format_of t) + k) (read_headed room t h ns rest e ∙ read_faulty (format_of t) room ns rest few k q)
        (line_fault t ns rest e k q)
    rest_fault ns rest e few (taken list extra) q d = go (eqb (length extra) 0) refl d
      where
        go : (b : Bool) → eqb (length extra) 0 ≡ b
            → (pick b (read_list room (settings_of ns) list) (refuse_read 10 (first_line (format_of t) + count_in ns) 0)).reading.answer ≡ 10
            → FirstFault t (read_text room t).reading.place
        go true z w = absurd (list_not_ten (settings_of ns) list w)
        go false z w =
            named (first_line (format_of t) + count_in ns)
            (read_headed room t h ns rest e ∙ read_extra (format_of t) room ns rest few list extra q (some (length extra) (eqb-false _ _ z)))
            (extra_fault t ns rest e list extra q (eqb-false _ _ z))
          where
            some : (n : ℕ) → (n ≡ 0 → ⊥) → 0 < n
            some n k = omega arith

    text_fault : (s : Scan) → scan (head (format_of t)) t ≡ s → (read_header (format_of t) room s).reading.answer ≡ 10
        → FirstFault t (read_text room t).reading.place
    unfolding read_header
    text_fault (faulty k) e d = named (1 + k) (read_unheaded room t h k e) (head_fault t k e)
    text_fault (taken ns rest) e d =
        let f = format_of t in
        let q = not_ten 5 (settings_of ns).cursor (leb (count_in ns) f.limit) (read_rest f room ns (scan (lines (count_in ns)) rest)) (eqb-false 5 10 refl) d in
        rest_fault ns rest e (leb-true _ _ q.0) (scan (lines (count_in ns)) rest) refl q.1

  pub ten_names : (read_text room t).reading.answer ≡ 10 → FirstFault t (read_text room t).reading.place
  unfolding read_text read_as
  ten_names e =
      let q = not_ten 11 0 (leb (length t) text_limit) (read_header (format_of t) room (scan (head (format_of t)) t)) (eqb-false 11 10 refl) e in
      text_fault (leb-true _ _ q.0) (scan (head (format_of t)) t) refl q.1

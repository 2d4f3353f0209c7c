-- What a refused reading and a refused writing leave. Assumes nothing.
use mathlib.Core.Path.{◌≡◌, refl, ap, ◌∙◌}
use Prim.Native.Nat.{ℕ, ◌+◌}
use mathlib.Core.Bool.{Bool, true, false}
use mathlib.Core.List.{List, []}
use lib.ListN.{length}
use lib.Dec.{eqb, leb}
use Rattle.lane.specs.declared.Settings.{Settings}
use Rattle.lane.specs.Words.{pick}
use Rattle.runner.specs.Checks.{list_answer}
use Rattle.listing.specs.declared.Reading.{Reading}
use Rattle.listing.specs.declared.Writing.{Writing}
use Rattle.listing.specs.Forms.{Scan, taken, faulty, scan}
use Rattle.listing.specs.Listing.{Format, format_of, head, first_line, lines, settings_of, count_in, in_front, Read, Write, refused_reading, refuse_read, accepted_reading, read_list, read_rest, read_header, read_as, text_limit, read_text, refused_writing, accepted_writing, listing, write_list}
use Rattle.claims.specs.Claims.{RefusedReadingTouchesNothing, RefusedWritingTouchesNothing}

-- ---- readings

-- a reading that is refused has nothing to put, and length 0
abbrev Empty : Read → Type 0
Empty r = (r.reading.answer ≡ 0 → ⊥) → (r.list ≡ []) × (r.reading.length ≡ 0)

refused_empty : (n p c : ℕ) → Empty (refuse_read n p c)
unfolding refused_reading
refused_empty n p c h = (refl, refl)

done_empty : (s : Settings) (list : List ℕ) → Empty (record { reading = accepted_reading s (length list); list = list })
unfolding accepted_reading
done_empty s list h = absurd (h refl)

either_empty : (t : Bool) (x y : Read) → Empty x → Empty y → Empty (pick t x y)
unfolding pick
either_empty true x y h k = h
either_empty false x y h k = k

list_empty : (room : ℕ) (s : Settings) (list : List ℕ) → Empty (read_list room s list)
unfolding read_list
list_empty room s list =
    either_empty (eqb (list_answer s list).answer 0) _ _
    (either_empty (leb (length list) room) _ _ (done_empty s list) (refused_empty 11 0 0))
    (refused_empty (list_answer s list).answer (list_answer s list).place s.cursor)

rest_empty : (f : Format) (room : ℕ) (ns : List ℕ) (x : Scan) → Empty (read_rest f room ns x)
unfolding read_rest
rest_empty f room ns (faulty k) = refused_empty 10 (first_line f + k) 0
rest_empty f room ns (taken list extra) =
    either_empty (eqb (length extra) 0) _ _ (list_empty room (settings_of ns) list) (refused_empty 10 (first_line f + count_in ns) 0)

header_empty : (f : Format) (room : ℕ) (x : Scan) → Empty (read_header f room x)
unfolding read_header
header_empty f room (faulty k) = refused_empty 10 (1 + k) 0
header_empty f room (taken ns rest) =
    either_empty (leb (count_in ns) f.limit) _ _ (rest_empty f room ns (scan (lines (count_in ns)) rest)) (refused_empty 5 0 (settings_of ns).cursor)

text_empty : (room : ℕ) (t : List ℕ) → Empty (read_text room t)
unfolding read_text read_as
text_empty room t =
    either_empty (leb (length t) text_limit) _ _ (header_empty (format_of t) room (scan (head (format_of t)) t)) (refused_empty 11 0 0)

-- nothing in front of a room is the room
untouched : (xs before : List ℕ) → xs ≡ [] → in_front xs before ≡ before
untouched xs before e = ap (λ (l : List ℕ). in_front l before) e

pub reading_untouched : RefusedReadingTouchesNothing
unfolding RefusedReadingTouchesNothing
reading_untouched t before after r p h =
    let e = text_empty (length before) t (λ z. h (ap (λ (x : Reading). x.answer) p.0 ∙ z)) in
    (p.1 ∙ untouched (read_text (length before) t).list before e.0, ap (λ (x : Reading). x.length) p.0 ∙ e.1)

-- ---- writings

abbrev Unwritten : Write → Type 0
Unwritten w = (w.writing.answer ≡ 0 → ⊥) → (w.bytes ≡ []) × (w.writing.length ≡ 0)

either_unwritten : (t : Bool) (x y : Write) → Unwritten x → Unwritten y → Unwritten (pick t x y)
unfolding pick
either_unwritten true x y h k = h
either_unwritten false x y h k = k

list_unwritten : (room : ℕ) (s : Settings) (list : List ℕ) → Unwritten (write_list room s list)
unfolding write_list refused_writing accepted_writing
list_unwritten room s list =
    either_unwritten (eqb (list_answer s list).answer 0) _ _
    (either_unwritten (leb (length (listing s list)) room) _ _ (λ h. absurd (h refl)) (λ h. (refl, refl)))
    (λ h. (refl, refl))

pub writing_untouched : RefusedWritingTouchesNothing
unfolding RefusedWritingTouchesNothing
writing_untouched s list before after w p h =
    let e = list_unwritten (length before) s list (λ z. h (ap (λ (x : Writing). x.answer) p.0 ∙ z)) in
    (p.1 ∙ untouched (write_list (length before) s list).bytes before e.0, ap (λ (x : Writing). x.length) p.0 ∙ e.1)

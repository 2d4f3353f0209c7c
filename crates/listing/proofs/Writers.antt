-- The writer: how many bytes it counts, the loops over instruction lines, and what each return says. Assumes nothing.
use mathlib.Core.Path.{◌≡◌, refl, sym, ap, ◌∙◌}
use Prim.Native.Nat.{ℕ, zero, suc, ◌+◌, ◌-◌, ◌*◌, ◌<◌, ◌≤◌}
use native.Mathlib.Nat.{add-zero, zero-add, sub-zero}
use native.Mathlib.Omega.{arith}
use mathlib.Core.List.{List, [], ◌∷◌, ◌++◌, append-nil, append_assoc}
use lib.ListN.{length, get_or, take, drop, length-append}
use lib.Seq.{drop-drop, get_or-drop, get_or-take}
use borrow.Author.Tests.{eq-eqb, ne_eqb, le-leb, lt-leb}
use Rattle.std.specs.Simd.{first_chunks}
use Rattle.lane.specs.declared.Settings.{Settings}
use Rattle.lane.proofs.Cases.{pick_true, pick_false}
use Rattle.runner.specs.Checks.{Found}
use Rattle.lane.proofs.Accepted.{fields_fit}
use Rattle.runner.specs.Checks.{insn_at, count_of, list_limit, list_answer}
use Rattle.runner.proofs.Accepted.{listed, given_short}
use Rattle.runner.proofs.Scan.{chunk_at}
use Rattle.listing.specs.Forms.{Form, lit, dec, hex, name, text, LF, digits, render, render_item, takes, name_of, spell, bytes, literal}
use Rattle.listing.specs.PrivatePlaces.{numbers, widest, widest_item, Grown}
use Rattle.listing.specs.PrivateLines.{line_length, Named}
use Rattle.listing.specs.Listing.{Format, written, header_with, head, line, lines, listing_in, listing, header_of, in_front, text_limit, refuse_write, accepted_writing, write_list}
use Rattle.listing.proofs.Digits.{length_digits}
use Rattle.listing.proofs.FormatTable.{Sound, line_numbers}
use Rattle.listing.proofs.LineRows.{length_line}
use Rattle.listing.proofs.LineWrites.{line_front}
use Rattle.listing.proofs.Rooms.{grown_none, grown_more, grown_whole}
use Rattle.listing.proofs.Trips.{render_append, widest_append}
use Rattle.listing.proofs.Walks.{render_widest}

-- ---- how many bytes

-- a form without a name takes as many bytes whatever its numbers
unfoldable pub Fixed : Form → Type 0
Fixed [] = Unit
Fixed (lit c ∷ f) = Fixed f
Fixed (dec w ∷ f) = Fixed f
Fixed (hex w ∷ f) = Fixed f
Fixed (name ∷ f) = ⊥

fixed_length : (f : Form) → Fixed f → (ns : List ℕ) → length (render f ns) ≡ widest f
unfolding Fixed render render_item widest widest_item
fixed_length [] h ns = refl
fixed_length (lit c ∷ f) h ns = omega (arith, fixed_length f h (drop (takes (lit c)) ns))
fixed_length (dec w ∷ f) h ns =
    length-append (digits 10 w (get_or ns 0 0)) (render f (drop (takes (dec w)) ns))
    ∙ omega (arith, length_digits 10 w (get_or ns 0 0), fixed_length f h (drop (takes (dec w)) ns))
fixed_length (hex w ∷ f) h ns =
    length-append (digits 16 w (get_or ns 0 0)) (render f (drop (takes (hex w)) ns))
    ∙ omega (arith, length_digits 16 w (get_or ns 0 0), fixed_length f h (drop (takes (hex w)) ns))
fixed_length (name ∷ f) h ns = absurd h

-- the head that is written
pub head_length : (ns : List ℕ) → length (render (head written) ns) ≡ 114
unfolding Fixed widest widest_item head header_with bytes spell literal
head_length ns = fixed_length (head written) tt ns

-- an instruction line, before its name and after it
abbrev opening : Form
opening = text "op="

unfoldable fields : Form
fields =
    text "imm="
    ++ (dec 5 ∷ text " vb=" ++ (dec 2 ∷ text " vc=" ++ (dec 2 ∷ text " vd=" ++ (dec 2 ∷ text " mod=" ++ (dec 2 ∷ lit LF ∷ [])))))

line_parts : line ≡ opening ++ (name ∷ fields)
unfolding line fields
line_parts = refl

opening_length : (ns : List ℕ) → length (render opening ns) ≡ 3
unfolding Fixed widest widest_item bytes spell literal
opening_length ns = fixed_length opening tt ns

fields_length : (ns : List ℕ) → length (render fields ns) ≡ 35
unfolding Fixed widest widest_item fields bytes spell literal
fields_length ns = fixed_length fields tt ns

opening_numbers : numbers opening ≡ 0
unfolding numbers takes bytes spell literal
opening_numbers = refl

pub line_length_lem : (ns : List ℕ) → length (render line ns) ≡ line_length (get_or ns 0 0)
unfolding render render_item takes
line_length_lem ns =
    ap (λ (f : Form). length (render f ns)) line_parts
    ∙ ap length (render_append opening (name ∷ fields) ns ∙ ap (λ (k : ℕ). render opening ns ++ render (name ∷ fields) (drop k ns)) opening_numbers)
    ∙ length-append (render opening ns) (name_of (get_or ns 0 0) ++ render fields (drop 1 ns))
    ∙ omega (arith, opening_length ns, length-append (name_of (get_or ns 0 0)) (render fields (drop 1 ns)), fields_length (drop 1 ns))

-- ---- instruction lines

-- the words of an instruction among a list's chunks
module _ (chunks : List (List ℕ)) (list : List ℕ) (k : ℕ) (e : chunks ≡ first_chunks 6 (count_of list) list) (l : k < count_of list) where
  chunk : get_or chunks k [] ≡ take 6 (drop (6 * k) list)
  chunk = ap (λ (x : List (List ℕ)). get_or x k []) e ∙ chunk_at 6 (count_of list) k list l

  pub op_in : get_or (get_or chunks k []) 0 0 ≡ get_or list (6 * k) 0
  op_in =
      ap (λ (x : List ℕ). get_or x 0 0) chunk ∙ get_or-take 6 (drop (6 * k) list) 0 0 (omega arith) ∙ get_or-drop (6 * k) list 0 0
      ∙ ap (λ (j : ℕ). get_or list j 0) (add-zero (6 * k))

  pub line_in : render line (get_or chunks k []) ≡ render line (drop (6 * k) list)
  line_in = ap (λ (x : List ℕ). render line x) chunk ∙ line_front (drop (6 * k) list)

lines_render : (n : ℕ) (ns : List ℕ) → render (lines (suc n)) ns ≡ render line ns ++ render (lines n) (drop 6 ns)
unfolding lines
lines_render n ns = render_append line (lines n) ns ∙ ap (λ (k : ℕ). render line ns ++ render (lines n) (drop k ns)) line_numbers

lines_next : (list : List ℕ) (count k : ℕ) → k < count
    → render (lines (count - k)) (drop (6 * k) list) ≡ render line (drop (6 * k) list) ++ render (lines (count - (k + 1))) (drop (6 * (k + 1)) list)
lines_next list count k h =
    let e : count - k ≡ suc (count - (k + 1)) = omega arith in
    let d : 6 * k + 6 ≡ 6 * (k + 1) = omega arith in
    rw (e, lines_render, drop-drop 6 (6 * k) list, d)

-- the count of their bytes
module _ (list : List ℕ) (count : ℕ) where
  pub record Counting (n k : ℕ) : Type 0 where
    pub goes : length (render (lines count) list) ≡ n + length (render (lines (count - k)) (drop (6 * k) list))
    pub few : n ≤ 45 * k
    pub up_to : k ≤ count

  pub counting_start : Counting 0 0
  counting_start =
      record { goes = rw (sub-zero count) (sym (zero-add (length (render (lines count) list)))); few = omega arith; up_to = omega arith }

  module _ (n k : ℕ) (s : Counting n k) where
    pub counting_more : k < count → (m : ℕ) → m ≡ line_length (get_or list (6 * k) 0) → Counting (n + m) (k + 1)
    counting_more l m e =
        let a = render line (drop (6 * k) list) in
        let b = render (lines (count - (k + 1))) (drop (6 * (k + 1)) list) in
        let z : get_or (drop (6 * k) list) 0 0 ≡ get_or list (6 * k) 0 = get_or-drop (6 * k) list 0 0 ∙ ap (λ (j : ℕ). get_or list j 0) (add-zero (6 * k)) in
        let p : length a ≡ m = line_length_lem (drop (6 * k) list) ∙ ap line_length z ∙ sym e in
        record {
          goes = omega (arith, s.goes, ap length (lines_next list count k l) ∙ length-append a b, p);
          few = omega (arith, s.few, length_line (get_or list (6 * k) 0));
          up_to = omega arith;
        }

    pub counting_end : count ≤ k → n ≡ length (render (lines count) list)
    unfolding lines render
    counting_end l =
        let z : count - k ≡ 0 = omega arith in
        let e : length (render (lines count) list) ≡ n + 0 = rw z at s.goes in
        omega (arith, e)

-- and their bytes
module _ (list : List ℕ) (place count : ℕ) (before : List ℕ) where
  pub record Putting (text : List ℕ) (at k : ℕ) : Type 0 where
    pub bs : List ℕ
    pub goes : render (lines count) list ≡ bs ++ render (lines (count - k)) (drop (6 * k) list)
    pub grown : Grown place at before text bs
    pub same : length text ≡ length before
    pub up_to : k ≤ count

  pub putting_start : Putting before place 0
  putting_start =
      record {
        bs = [];
        goes = rw (sub-zero count) refl;
        grown = grown_none place before;
        same = refl;
        up_to = omega arith;
      }

  module _ (text : List ℕ) (at k : ℕ) (s : Putting text at k) where
    pub putting_room : place + length (render (lines count) list) ≤ length before → k < count → at + line_length (get_or list (6 * k) 0) ≤ length text
    putting_room h l =
        let a = render line (drop (6 * k) list) in
        let b = render (lines (count - (k + 1))) (drop (6 * (k + 1)) list) in
        let z : get_or (drop (6 * k) list) 0 0 ≡ get_or list (6 * k) 0 = get_or-drop (6 * k) list 0 0 ∙ ap (λ (j : ℕ). get_or list j 0) (add-zero (6 * k)) in
        let p : length a ≡ line_length (get_or list (6 * k) 0) = line_length_lem (drop (6 * k) list) ∙ ap line_length z in
        omega (
          arith,
          ap length (s.goes ∙ ap (λ (x : List ℕ). s.bs ++ x) (lines_next list count k l)) ∙ length-append s.bs (a ++ b),
          length-append a b,
          p,
          s.grown.up_to,
          s.same,
        )

    pub putting_more : (r : ℕ) (after : List ℕ) → k < count → Grown at r text after (render line (drop (6 * k) list)) → length after ≡ length text
        → Putting after r (k + 1)
    putting_more r after l g q =
        record {
          bs = s.bs ++ render line (drop (6 * k) list);
          goes = s.goes ∙ rw (lines_next list count k l) (sym (append_assoc s.bs _ _));
          grown = grown_more place at before text s.bs s.grown r after _ g;
          same = q ∙ s.same;
          up_to = omega arith;
        }

    pub putting_end : count ≤ k → Grown place at before text (render (lines count) list)
    unfolding lines render
    putting_end l =
        let z : count - k ≡ 0 = omega arith in
        let e : render (lines count) list ≡ s.bs = s.goes ∙ rw z (append-nil s.bs) in
        rw e s.grown

-- ---- a whole listing

pub listing_length : (s : Settings) (list : List ℕ) → length (listing s list) ≡ 114 + length (render (lines (count_of list)) list)
unfolding listing_in
listing_length s list =
    let a = render (head written) (header_of s (count_of list)) in
    length-append a (render (lines (count_of list)) list) ∙ omega (arith, head_length (header_of s (count_of list)))

pub head_room : (s : Settings) (list ns : List ℕ) (size : ℕ) → length (listing s list) ≤ size → 0 + length (render (head written) ns) ≤ size
head_room s list ns size h = omega (arith, listing_length s list, head_length ns)

pub listing_put : (s : Settings) (list before text after : List ℕ) (at r : ℕ) → Grown 0 at before text (render (head written) (header_of s (count_of list)))
    → Grown at r text after (render (lines (count_of list)) list) → after ≡ in_front (listing s list) before
unfolding listing_in
listing_put s list before text after at r g h = grown_whole r before after _ (grown_more 0 at before text _ g r after _ h)

-- ---- sizes

pub few_words : (s : Settings) (list : List ℕ) → (list_answer s list).answer ≡ 0 → length list ≤ 6 * list_limit
few_words s list e = given_short s list (listed s list e).checked

-- every op of a list that no check refuses has a name
pub list_named : (s : Settings) (list : List ℕ) → (list_answer s list).answer ≡ 0 → Named list
unfolding insn_at
list_named s list e k l = let n = fields_fit (insn_at list k) ((listed s list e).each k l) in (n.known, n.last)

pub line_widest : widest line ≡ 45
unfolding widest widest_item line bytes spell literal
line_widest = refl

lines_widest : (n : ℕ) → widest (lines n) ≡ 45 * n
unfolding lines widest
lines_widest zero = refl
lines_widest (suc n) = widest_append line (lines n) ∙ omega (arith, line_widest, lines_widest n)

pub lines_few : (list : List ℕ) → length (render (lines (count_of list)) list) ≤ 45 * count_of list
lines_few list = omega (arith, render_widest (lines (count_of list)) list, lines_widest (count_of list))

pub listing_short : (f : Format) → Sound f → (s : Settings) (list : List ℕ) → count_of list ≤ list_limit → length (listing_in f s list) ≤ text_limit
unfolding listing_in
listing_short f d s list h =
    let a = render (head f) (header_of s (count_of list)) in
    let b = render (lines (count_of list)) list in
    omega (
      arith,
      length-append a b,
      render_widest (head f) (header_of s (count_of list)),
      d.narrow,
      render_widest (lines (count_of list)) list,
      lines_widest (count_of list),
    )

-- ---- what a return says

module _ (room : ℕ) (s : Settings) (list : List ℕ) (f : Found) (e : f ≡ list_answer s list) where
  pub write_refused : (f.answer ≡ 0 → ⊥) → write_list room s list ≡ refuse_write f.answer f.place s.cursor
  unfolding write_list
  write_refused h = rw (← e) (pick_false _ _ _ (ne_eqb f.answer 0 h))

  pub write_short : f.answer ≡ 0 → room < length (listing s list) → write_list room s list ≡ refuse_write 11 0 0
  unfolding write_list
  write_short h l =
      rw (← e) (pick_true _ _ _ (eq-eqb f.answer 0 h) ∙ pick_false _ _ _ (lt-leb (length (listing s list)) room l))

  pub write_done : f.answer ≡ 0 → length (listing s list) ≤ room
      → write_list room s list ≡ record { writing = accepted_writing s (length (listing s list)); bytes = listing s list }
  unfolding write_list
  write_done h l =
      rw (← e) (pick_true _ _ _ (eq-eqb f.answer 0 h) ∙ pick_true _ _ _ (le-leb (length (listing s list)) room l))

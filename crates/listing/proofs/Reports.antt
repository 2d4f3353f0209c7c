-- The report: its forms as byte strings, its loops, and what each return says. Assumes nothing.
use mathlib.Core.Path.{◌≡◌, refl, sym, ap, ◌∙◌}
use Prim.Native.Nat.{ℕ, zero, suc, max, ◌+◌, ◌*◌, ◌/◌, ◌%◌, ◌^◌, ◌<◌, ◌≤◌}
use native.Mathlib.Nat.{pow-suc, pow-le-pow_right}
use native.Mathlib.Decide.{dec_lt}
use native.Mathlib.Numerals.{add-one}
use native.Mathlib.Omega.{arith}
use mathlib.Core.Bool.{Bool, true, false}
use mathlib.Core.List.{List, [], ◌∷◌, ◌++◌, append-nil}
use lib.ListN.{length, get_or, drop}
use lib.Dec.{eqb, leb}
use borrow.Author.Tests.{eq-eqb, ne_eqb, le-leb, lt-leb, leb-true}
use Rattle.lane.specs.Words.{pick}
use Rattle.lane.proofs.Cases.{pick_true, pick_false}
use Rattle.listing.specs.declared.Reporting.{Reporting}
use Rattle.listing.specs.Listing.{in_front}
use Rattle.listing.specs.Forms.{Form, dec, render, render_item, takes, spell, bytes, literal, digits}
use Rattle.listing.specs.PrivatePlaces.{item_of, form_of, numbers, widest, widest_item, Grown, Renders}
use Rattle.listing.specs.Report.{width_in, width_of, outcome_form, outcome_lines, change_form, register_of, change_line, changes, Printed, report, reported, reporting, Reports}
use Rattle.listing.proofs.Digits.{length_digits}
use Rattle.listing.proofs.Rooms.{grown_none, grown_more}
use Rattle.listing.proofs.Trips.{render_append}

-- ---- widths

-- how many of at most j + 1 digits a number takes that has k + 1
width_among : (j k n : ℕ) → k ≤ j → (0 < k → 10 ^ k ≤ n) → n < 10 ^ suc k → suc k ≡ width_in (suc j) n
unfolding width_in pick
width_among zero k n h low high =
    let z : k ≡ 0 = omega arith in
    ap suc z ∙ go (leb (10 ^ 0) n)
  where
    go : (b : Bool) → suc zero ≡ pick b (suc zero) (suc zero)
    go true = refl
    go false = refl
width_among (suc j) k n h low high =
    elim (dec_lt k (suc j)) [
      | yes l ↦
          let p : 10 ^ suc k ≤ 10 ^ suc j = pow-le-pow_right (omega arith) l in
          width_among j k n (omega arith) low high ∙ sym (pick_false _ (suc (suc j)) (width_in (suc j) n) (lt-leb (10 ^ suc j) n (omega arith)))
      | no l ↦
          let e : k ≡ suc j = omega arith in
          ap suc e ∙ sym (pick_true _ (suc (suc j)) (width_in (suc j) n) (le-leb (10 ^ suc j) n (rw e at (low (omega arith)))))
    ]

pub width_is : (k m n : ℕ) → m ≡ max n 1 → 10 ^ k ≤ m → m < 10 * 10 ^ k → k < 10 → k + 1 ≡ width_of n
width_is k m n e low high h =
    add-one k
    ∙ width_among 9 k n (omega arith)
    (λ z. let p : 10 ^ 1 ≤ 10 ^ k = pow-le-pow_right (omega arith) z in omega arith)
    (rw pow-suc (omega arith))

-- ---- the forms that the code has

abbrev pub answer_bytes : List ℕ
answer_bytes = bytes "answer="

abbrev pub outcome_bytes : List ℕ
outcome_bytes = bytes "\nsteps=\u{5}\nplace=\u{5}\ncursor=\u{4}\n"

abbrev pub change_bytes : List ℕ
change_bytes = bytes "reg=\u{2} lane=\u{2} word=\u{18}\n"

pub outcome_form_lem : (w : ℕ) → form_of answer_bytes ++ (dec w ∷ form_of outcome_bytes) ≡ outcome_form w
unfolding form_of item_of outcome_form bytes spell literal pick
outcome_form_lem w = refl

pub change_form_lem : form_of change_bytes ≡ change_form
unfolding form_of item_of change_form bytes spell literal pick
change_form_lem = refl

pub change_widest : widest change_form ≡ 29
unfolding widest widest_item change_form bytes spell literal
change_widest = refl

pub answer_numbers : numbers (form_of answer_bytes) ≡ 0
unfolding numbers takes form_of item_of bytes spell pick
answer_numbers = refl

pub answer_widest : widest (form_of answer_bytes) ≡ 7
unfolding widest widest_item form_of item_of bytes spell pick
answer_widest = refl

pub outcome_widest : widest (form_of outcome_bytes) ≡ 37
unfolding widest widest_item form_of item_of bytes spell pick
outcome_widest = refl

-- ---- the four lines

number_next : (w : ℕ) (f : Form) (a : ℕ) (ns : List ℕ) → render (dec w ∷ f) (a ∷ ns) ≡ digits 10 w a ++ render f ns
unfolding render render_item takes
number_next w f a ns = refl

outcome_split : (answer steps place cursor : ℕ)
    → outcome_lines answer steps place cursor
    ≡ render (form_of answer_bytes) (answer ∷ steps ∷ place ∷ cursor ∷ [])
    ++ (digits 10 (width_of answer) answer ++ render (form_of outcome_bytes) (steps ∷ place ∷ cursor ∷ []))
outcome_split answer steps place cursor =
    let vs = answer ∷ steps ∷ place ∷ cursor ∷ [] in
    ap (λ (f : Form). render f vs) (sym (outcome_form_lem (width_of answer)))
    ∙ render_append (form_of answer_bytes) (dec (width_of answer) ∷ form_of outcome_bytes) vs
    ∙ ap (λ (k : ℕ). render (form_of answer_bytes) vs ++ render (dec (width_of answer) ∷ form_of outcome_bytes) (drop k vs)) answer_numbers
    ∙ ap (λ (l : List ℕ). render (form_of answer_bytes) vs ++ l) (number_next (width_of answer) (form_of outcome_bytes) answer (steps ∷ place ∷ cursor ∷ []))

pub outcome_grows : (answer steps place cursor w at end r : ℕ) (before one two after : List ℕ) → w ≡ width_of answer → w ≤ 10
    → Renders (render (form_of answer_bytes) (answer ∷ steps ∷ place ∷ cursor ∷ [])) 0 (widest (form_of answer_bytes)) before one at
    → Grown at end one two (digits 10 w answer)
    → Renders (render (form_of outcome_bytes) (steps ∷ place ∷ cursor ∷ [])) end (widest (form_of outcome_bytes)) two after r
    → Renders (outcome_lines answer steps place cursor) 0 54 before after r
outcome_grows answer steps place cursor w at end r before one two after e h a b c =
    record {
      grown =
          rw (outcome_split answer steps place cursor, ← e)
          (grown_more 0 at before one _ a.grown r after _ (grown_more at end one two _ b r after _ c.grown));
      within = omega (arith, a.within, b.up_to, length_digits 10 w answer, c.within, answer_widest, outcome_widest);
    }

-- ---- the lines of registers

pub change_none : (b a : List ℕ) (p at : ℕ) (page : List ℕ) → get_or b p 0 ≡ get_or a p 0 → Renders (change_line b a p) at 29 page page at
unfolding change_line
change_none b a p at page e =
    rw (pick_true (eqb (get_or b p 0) (get_or a p 0)) [] (render change_form (register_of (p / 32) ∷ p % 32 ∷ get_or a p 0 ∷ [])) (eq-eqb _ _ e))
    (record { grown = grown_none at page; within = omega arith })

pub change_some : (b a : List ℕ) (p at r : ℕ) (page after : List ℕ) → (get_or b p 0 ≡ get_or a p 0 → ⊥)
    → Renders (render (form_of change_bytes) (register_of (p / 32) ∷ p % 32 ∷ get_or a p 0 ∷ [])) at (widest (form_of change_bytes)) page after r
    → Renders (change_line b a p) at 29 page after r
unfolding change_line
change_some b a p at r page after e s =
    rw (pick_false (eqb (get_or b p 0) (get_or a p 0)) [] (render change_form (register_of (p / 32) ∷ p % 32 ∷ get_or a p 0 ∷ [])) (ne_eqb _ _ e))
    (rw (change_form_lem, change_widest) at s)

pub record Changing (b a : List ℕ) (place : ℕ) (before page : List ℕ) (at p : ℕ) : Type 0 where
  pub grown : Grown place at before page (changes b a p)
  pub room : at ≤ place + 29 * p
  pub same : length page ≡ length before
  pub up_to : p ≤ 384

module _ (b a : List ℕ) (place : ℕ) (before : List ℕ) where
  pub changing_start : Changing b a place before before place 0
  unfolding changes
  changing_start = record { grown = grown_none place before; room = omega arith; same = refl; up_to = omega arith }

  pub changing_more : (page after : List ℕ) (at p r : ℕ) → p < 384 → Changing b a place before page at p
      → Renders (change_line b a p) at 29 page after r → length after ≡ length page → Changing b a place before after r (p + 1)
  unfolding changes
  changing_more page after at p r h s e k =
      record {
        grown = rw (add-one p) (grown_more place at before page (changes b a p) s.grown r after _ e.grown);
        room = omega (arith, s.room, e.within);
        same = k ∙ s.same;
        up_to = omega arith;
      }

  pub changing_end : (page : List ℕ) (at p : ℕ) → 384 ≤ p → Changing b a place before page at p
      → Renders (changes b a 384) place 11136 before page at
  changing_end page at p h s =
      let e : p ≡ 384 = omega (arith, s.up_to) in
      record { grown = rw e at s.grown; within = omega (arith, s.room, s.up_to) }

-- ---- the whole

module _ (answer steps place cursor : ℕ) (b a before page : List ℕ) (at : ℕ)
    (s : Renders (outcome_lines answer steps place cursor) 0 54 before page at) where
  pub report_done : (after : List ℕ) (r : ℕ) → answer ≡ 0 → Renders (changes b a 384) at 11136 page after r
      → Grown 0 r before after (report answer steps place cursor b a).bytes
  unfolding report
  report_done after r e c =
      rw (pick_true (eqb answer 0) (changes b a 384) [] (eq-eqb answer 0 e))
      (grown_more 0 at before page _ s.grown r after _ c.grown)

  pub report_refused : (answer ≡ 0 → ⊥) → Grown 0 at before page (report answer steps place cursor b a).bytes
  unfolding report
  report_refused e =
      rw (pick_false (eqb answer 0) (changes b a 384) [] (ne_eqb answer 0 e), append-nil (outcome_lines answer steps place cursor)) s.grown

-- ---- in lent room

module _ (p : Printed) (before : List ℕ) where
  pub reports_short : length before < length p.bytes → Reports p before before (record { answer = 11; length = 0 })
  unfolding reported reporting
  reports_short h =
      record {
        told = sym (pick_false _ _ _ (lt-leb (length p.bytes) (length before) h));
        put = ap (λ (l : List ℕ). in_front l before) (sym (pick_false _ _ _ (lt-leb (length p.bytes) (length before) h)));
      }

  pub reports_whole : (n : ℕ) (after : List ℕ) → n ≡ length p.bytes → length p.bytes ≤ length before → after ≡ in_front p.bytes before
      → Reports p before after (record { answer = p.answer; length = n })
  unfolding reported reporting
  reports_whole n after e h q =
      record {
        told =
            ap (λ (k : ℕ). record { answer = p.answer; length = k }) e
            ∙ sym (pick_true _ _ _ (le-leb (length p.bytes) (length before) h));
        put = q ∙ ap (λ (l : List ℕ). in_front l before) (sym (pick_true _ _ _ (le-leb (length p.bytes) (length before) h)));
      }

  -- what is returned fits the room
  pub reports_within : (after : List ℕ) (r : Reporting) → Reports p before after r → length after ≡ length before → r.length ≤ length after
  unfolding reporting pick
  reports_within after r h k = rw (h.told, k) (go (leb (length p.bytes) (length before)) refl)
    where
      go : (t : Bool) → leb (length p.bytes) (length before) ≡ t
          → (pick {X = Reporting} t (record { answer = p.answer; length = length p.bytes }) (record { answer = 11; length = 0 })).length ≤ length before
      go true e = leb-true (length p.bytes) (length before) e
      go false e = omega arith

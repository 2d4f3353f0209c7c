-- The forms as the code has them, and what holds of every format of the table. Assumes nothing.
use mathlib.Core.Path.{◌≡◌, refl, sym, ◌∙◌}
use Prim.Native.Nat.{ℕ, zero, suc, ◌*◌, ◌≤◌}
use native.Mathlib.Omega.{arith}
use mathlib.Core.Bool.{Bool, true, false}
use mathlib.Core.List.{List, []}
use Rattle.lane.specs.Words.{pick}
use Rattle.lane.proofs.Cases.{pick_true, pick_false}
use Rattle.runner.specs.Checks.{list_limit}
use Rattle.listing.specs.declared.formats.Format as Code
use Rattle.listing.specs.declared.formats.Format.TheVariants.{Old, Two}
use Rattle.listing.specs.Forms.{faulty, follow, ends, lines_in, scan, scan_item, scan_byte, takes, spell, bytes, literal, begins}
use Rattle.listing.specs.PrivatePlaces.{item_of, form_of, numbers, widest, widest_item}
use Rattle.listing.specs.PrivateReader.{row}
use Rattle.listing.specs.Listing.{Format, old, two, format_among, format_of, header_with, head, first_line, line, lines}
use Rattle.listing.proofs.Trips.{numbers_append}

-- ---- the forms that the code has

abbrev pub old_head_bytes : List ℕ
old_head_bytes =
    bytes "edition=\u{1}\nsrcb=\u{1}\noffset=\u{4}\ncursor=\u{4}\nstride0=\u{4}\nstride1=\u{4}\nstride2=\u{4}\nstride3=\u{4}\ncount=\u{4}\n"

abbrev pub head2_bytes : List ℕ
head2_bytes =
    bytes "format=2\nedition=\u{1}\nsrcb=\u{1}\noffset=\u{4}\ncursor=\u{4}\nstride0=\u{4}\nstride1=\u{4}\nstride2=\u{4}\nstride3=\u{4}\ncount=\u{5}\n"

abbrev pub line_bytes : List ℕ
line_bytes = bytes "op=\u{e}imm=\u{5} vb=\u{2} vc=\u{2} vd=\u{2} mod=\u{2}\n"

pub old_head_form : form_of old_head_bytes ≡ head old
unfolding form_of item_of head header_with bytes spell literal pick
old_head_form = refl

pub head_2_form : form_of head2_bytes ≡ head two
unfolding form_of item_of head header_with bytes spell literal pick
head_2_form = refl

pub line_form : form_of line_bytes ≡ line
unfolding form_of item_of line bytes spell literal pick
line_form = refl

-- ---- an instruction line

pub line_numbers : numbers line ≡ 6
unfolding numbers line takes bytes spell literal
line_numbers = refl

pub line_lines : lines_in line ≡ 1
unfolding lines_in line ends bytes spell literal pick
line_lines = refl

pub lines_numbers : (n : ℕ) → numbers (lines n) ≡ 6 * n
unfolding lines numbers
lines_numbers zero = refl
lines_numbers (suc n) = numbers_append line (lines n) ∙ omega (arith, line_numbers, lines_numbers n)

-- ---- every format

-- what the reader and the writer ask of a format
pub record Sound (f : Format) : Type 0 where
  pub nine : numbers (head f) ≡ 9
  pub few : f.limit ≤ list_limit
  pub early : first_line f ≤ 11
  pub narrow : widest (head f) ≤ 114
  pub no_text : scan (head f) [] ≡ faulty 0

pub two_sound : Sound two
unfolding numbers takes widest widest_item lines_in ends first_line scan follow scan_item scan_byte head header_with bytes spell literal pick
two_sound = record { nine = refl; few = omega arith; early = omega arith; narrow = omega arith; no_text = refl }

pub old_sound : Sound old
unfolding numbers takes widest widest_item lines_in ends first_line scan follow scan_item scan_byte head header_with bytes spell literal pick
old_sound = record { nine = refl; few = omega arith; early = omega arith; narrow = omega arith; no_text = refl }

-- what holds of each row of the table holds of every text's format
pub of_every : (P : Format → Type 0) → P two → P old → (t : List ℕ) → P (format_of t)
unfolding format_among pick
of_every P a b t = go (begins two.mark t) (begins old.mark t)
  where
    go : (x y : Bool) → P (pick x two (pick y old old))
    go true y = a
    go false true = b
    go false false = b

pub text_sound : (t : List ℕ) → Sound (format_of t)
text_sound = of_every Sound two_sound old_sound

-- ---- a format of the code

pub row_sound : (k : Code.Format) → Sound (row k)
row_sound Old = old_sound
row_sound Two = two_sound

pub marked : (t : List ℕ) (b : Bool) → b ≡ begins two.mark t → b ≡ true → format_of t ≡ two
unfolding format_among
marked t b e h = pick_true _ _ _ (sym e ∙ h)

pub unmarked : (t : List ℕ) (b : Bool) → b ≡ begins two.mark t → b ≡ false → format_of t ≡ old
unfolding format_among begins
unmarked t b e h = pick_false _ _ _ (sym e ∙ h) ∙ pick_true _ _ _ refl

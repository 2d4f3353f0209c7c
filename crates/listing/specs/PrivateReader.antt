-- Pass over this page with document 01 in the other hand: it is the vocabulary of private functions, and no promise rests on it. It has
-- what the reader finds that keeps hold of the lent text and its line number.
use Rattle.std.specs.Prelude.{ℕ, ◌-◌, ◌*◌, ◌≤◌, ◌≡◌, ◌==◌, List, ◌++◌, length, drop, Result, MatchResult}
use Rattle.lane.specs.Words.{pick}
use Rattle.runner.specs.Checks.{Found, found, found_by, scan as scanList, scanned}
use Rattle.listing.specs.declared.Fault.{Fault}
use Rattle.listing.specs.declared.Reading.{Reading}
use Rattle.listing.specs.declared.Rest.{Rest}
use Rattle.listing.specs.declared.formats.Format as Code
use Rattle.listing.specs.declared.formats.Format.TheVariants.{Old, Two}
use Rattle.listing.specs.declared.hold.Reader.{Reader}
use Rattle.listing.specs.Forms.{Form, taken, joined, scan}
use Rattle.listing.specs.PrivatePlaces.{Grown, FormAt, FaultAt, numbers_of}
use Rattle.listing.specs.Listing.{Format, old, two, lines, in_front, Read}

-- The row of the table that a format of the code has.
abbrev pub row : Code.Format → Format
row Old = old
row Two = two

-- What a reader finds that stands at a form, and where it stands then.
abbrev pub Advances : Form → Reader → Reader → Result (List ℕ) Fault → Type 0
Advances f before after r =
    MatchResult r (FormAt f before.text.now before.at before.line after.at after.line)
    (FaultAt (scan f (drop before.at before.text.now)) before.line)

-- The first refused of some instructions, and of one more, which is the kth and has the answer a.
unfoldable pub first_refused : Found → ℕ → ℕ → Found
first_refused f k a = pick (f.answer == 0) (pick (a == 0) f (found a k)) f

-- What a reading returns, and the lent room afterwards.
pub record Reads (given : Read) (before after : List ℕ) (r : Reading) : Type 0 where
  pub told : r ≡ given.reading
  pub put : after ≡ in_front given.list before

-- Of so many instruction lines from a position on, the first i are in form and end at another, and of their instructions the first refused was found.
pub record Checking (t : List ℕ) (from count at : ℕ) (f : Found) (i : ℕ) : Type 0 where
  pub ns : List ℕ
  pub goes : scan (lines count) (drop from t) ≡ joined ns i (scan (lines (count - i)) (drop at t))
  pub refused : f ≡ scanList ns 0 i
  pub six : length ns ≡ 6 * i
  pub within : at ≤ length t
  pub up_to : i ≤ count

-- So many are in form, and of their instructions the first refused was found.
pub record Checked (t : List ℕ) (from count : ℕ) (r : Rest) : Type 0 where
  pub ns : List ℕ
  pub whole : scan (lines count) (drop from t) ≡ taken ns (drop r.at t)
  pub refused : found_by r.found ≡ scanned ns
  pub within : r.at ≤ length t

abbrev pub Checks : List ℕ → ℕ → ℕ → ℕ → Result Rest Fault → Type 0
Checks t from first count r = MatchResult r (Checked t from count) (FaultAt (scan (lines count) (drop from t)) first)

-- Of so many that are all in form, the first i end at another, and their words are in front of lent room.
pub record Filling (t : List ℕ) (from count : ℕ) (before list : List ℕ) (at i : ℕ) : Type 0 where
  pub done : List ℕ
  pub left : List ℕ
  pub rest : List ℕ
  pub goes : numbers_of (scan (lines count) (drop from t)) ≡ done ++ left
  pub still : scan (lines (count - i)) (drop at t) ≡ taken left rest
  pub grown : Grown 0 (6 * i) before list done
  pub same : length list ≡ length before
  pub within : at ≤ length t
  pub up_to : i ≤ count

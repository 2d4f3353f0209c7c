-- Pass over this page with document 01 in the other hand: it is the vocabulary of private functions, and no promise rests on it. It has
-- how the code says what a scan finds and what a render writes: forms as byte strings, positions in a text, lists that grow in lent room.
use Rattle.std.specs.Prelude.{ℕ, ◌+◌, ◌-◌, ◌≤◌, ◌≡◌, ◌==◌, nat_le, nat_lt, List, [], ◌∷◌, ◌++◌, map, length, take, drop, Option, None, Some, Result, MatchOption, MatchResult}
use Rattle.lane.specs.Words.{pick}
use Rattle.listing.specs.declared.Got.{Got}
use Rattle.listing.specs.declared.Scanned.{Scanned}
use Rattle.listing.specs.declared.Fault.{Fault}
use Rattle.listing.specs.Forms.{Item, lit, dec, hex, name, Form, Scan, taken, faulty, takes, lines_in, scan}

-- A byte of a form: below 10 that many decimal digits, 14 an op name, 16 to 24 up to eight hexadecimal digits, any other itself.
unfoldable pub item_of : ℕ → Item
item_of x = pick (nat_lt x 10) (dec x) (pick (x == 14) name (pick (nat_lt x 16) (lit x) (pick (nat_le x 24) (hex (x - 16)) (lit x))))

unfoldable pub form_of : List ℕ → Form
form_of bs = map item_of bs

-- The most bytes that an item can be rendered to, and a form.
unfoldable pub widest_item : Item → ℕ
widest_item (lit c) = 1
widest_item (dec w) = w
widest_item (hex w) = w
widest_item name = 7

unfoldable pub widest : Form → ℕ
widest [] = 0
widest (i ∷ f) = widest_item i + widest f

-- How many numbers a form takes.
unfoldable pub numbers : Form → ℕ
numbers [] = 0
numbers (i ∷ f) = takes i + numbers f

-- The first n of `after` are the first p of `before`, and then xs; what is past them is as before.
pub record Grown {A : Type 0} (p n : ℕ) (before after xs : List A) : Type 0 where
  pub front : take n after ≡ take p before ++ xs
  pub back : drop n after ≡ drop n before
  pub up_to : n ≡ p + length xs

-- The number of an item as a list: of one, or of none.
abbrev pub of_item : Option ℕ → List ℕ
of_item None = []
of_item (Some v) = v ∷ []

-- What is found where an item is scanned in a text.
pub record ItemAt (s : Scan) (t : List ℕ) (g : Got) : Type 0 where
  pub scanned : s ≡ taken (of_item g.number) (drop g.at t)
  pub within : g.at ≤ length t

abbrev pub Gets : Scan → List ℕ → Option Got → Type 0
Gets s t r = MatchOption r (s ≡ faulty 0) (ItemAt s t)

-- What is found where a form is scanned in a text, from a position and the line `first` on.
pub record FormAt (f : Form) (t : List ℕ) (at first end line : ℕ) (ns : List ℕ) : Type 0 where
  pub scanned : scan f (drop at t) ≡ taken (take (numbers f) ns) (drop end t)
  pub within : end ≤ length t
  pub onward : line ≡ first + lines_in f

-- A scan is faulty at a line.
pub record FaultAt (s : Scan) (first : ℕ) (e : Fault) : Type 0 where
  pub scanned : s ≡ faulty (e.line - first)
  pub onward : first ≤ e.line

abbrev pub Finds : Form → List ℕ → ℕ → ℕ → Result Scanned Fault → Type 0
Finds f t at first r =
    MatchResult r (λ c. FormAt f t at first c.at c.line c.numbers) (FaultAt (scan f (drop at t)) first)

-- The numbers of a scan, none where it is faulty; and that it is not.
unfoldable pub numbers_of : Scan → List ℕ
numbers_of (taken ns t) = ns
numbers_of (faulty k) = []

pub record Whole (s : Scan) : Type 0 where
  pub rest : List ℕ
  pub whole : s ≡ taken (numbers_of s) rest

-- Bytes were written into lent room from p on, no more than a form can need.
pub record Renders (bs : List ℕ) (p most : ℕ) (before after : List ℕ) (r : ℕ) : Type 0 where
  pub grown : Grown p r before after bs
  pub within : r ≤ p + most

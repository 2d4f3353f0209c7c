-- Document 01, "Listings": what the program prints.
use Rattle.std.specs.Prelude.{ℕ, zero, suc, ◌+◌, ◌/◌, ◌%◌, ◌^◌, ◌≡◌, List, [], ◌∷◌, ◌++◌, get_or, length, ltb, leb, eqb}
use Rattle.lane.specs.Words.{pick}
use Rattle.listing.specs.declared.Reporting.{Reporting}
use Rattle.listing.specs.Forms.{Form, lit, dec, hex, text, LF, render}
use Rattle.listing.specs.Listing.{number_line, in_front}

-- "answer has no leading zeros": how many of at most k digits a number takes, ten being enough for 32 bits; 0 takes one.
unfoldable pub width_in : ℕ → ℕ → ℕ
width_in zero n = 1
width_in (suc k) n = pick (leb (10 ^ k) n) (suc k) (width_in k n)

abbrev pub width_of : ℕ → ℕ
width_of n = width_in 10 n

-- The four lines of an outcome, the answer with w digits, "every result's steps and place .. five digits" (document 02, M-105) and "4 elsewhere".
unfoldable pub outcome_form : ℕ → Form
outcome_form w = number_line "answer=" w ++ (number_line "steps=" 5 ++ (number_line "place=" 5 ++ number_line "cursor=" 4))

abbrev pub outcome_lines : ℕ → ℕ → ℕ → ℕ → List ℕ
outcome_lines answer steps place cursor = render (outcome_form (width_of answer)) (answer ∷ steps ∷ place ∷ cursor ∷ [])

-- "2 for .. reg, lane", "in eight upper-case hex digits".
unfoldable pub change_form : Form
change_form = text "reg=" ++ (dec 2 ∷ text " lane=" ++ (dec 2 ∷ text " word=" ++ (hex 8 ∷ lit LF ∷ [])))

-- The register of a slot: 0 to 7, then 11 to 14.
unfoldable pub register_of : ℕ → ℕ
register_of slot = pick (ltb slot 8) slot (slot + 3)

-- A line for word p of an image, where it changed. A word that an image lacks counts as 0.
unfoldable pub change_line : List ℕ → List ℕ → ℕ → List ℕ
change_line before after p =
    pick (eqb (get_or before p 0) (get_or after p 0)) []
    (render change_form (register_of (p / 32) ∷ p % 32 ∷ get_or after p 0 ∷ []))

-- "lists registers whose word changed, by register, then lane": 32 lanes a register, the first n words.
unfoldable pub changes : List ℕ → List ℕ → ℕ → List ℕ
changes before after zero = []
changes before after (suc n) = changes before after n ++ change_line before after n

-- A report: the number that stands in it, and its bytes.
pub record Printed : Type 0 where
  pub answer : ℕ
  pub bytes : List ℕ

-- The whole report: registers only where all was done. Twelve registers are 384 words.
unfoldable pub report : ℕ → ℕ → ℕ → ℕ → List ℕ → List ℕ → Printed
report answer steps place cursor before after =
    record {
      answer = answer;
      bytes = outcome_lines answer steps place cursor ++ pick (eqb answer 0) (changes before after 384) [];
    }

-- What is put in front of lent room: nothing, where the room is too short.
unfoldable pub reported : ℕ → List ℕ → List ℕ
reported room bs = pick (leb (length bs) room) bs []

-- What is returned: the report's number and its length, or 11, "lent room too short", and 0.
unfoldable pub reporting : ℕ → Printed → Reporting
reporting room p =
    pick (leb (length p.bytes) room) (record { answer = p.answer; length = length p.bytes }) (record { answer = 11; length = 0 })

-- A report was asked for in lent room: what is returned, and the room afterwards.
pub record Reports (p : Printed) (before after : List ℕ) (r : Reporting) : Type 0 where
  pub told : r ≡ reporting (length before) p
  pub put : after ≡ in_front (reported (length before) p.bytes) before

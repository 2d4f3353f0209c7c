-- Pass over this page with document 01 in the other hand: it is the vocabulary of private functions, and no promise rests on it. It has
-- instruction lines taken as a whole: after its op's name, everything in a line stands at a fixed place.
use Rattle.std.specs.Prelude.{ℕ, ◌+◌, ◌-◌, ◌*◌, ◌%◌, ◌<◌, ◌≤◌, ◌≡◌, true, List, [], ◌∷◌, ◌++◌, get_or, length, drop, replicate}
use Rattle.lane.specs.declared.Insn.{Insn}
use Rattle.lane.specs.Refusals.{instruction_answer}
use Rattle.runner.specs.Checks.{count_of}
use Rattle.listing.specs.Forms.{bytes, digits, name_of, lit, dec, hex, name, Form, taken, scan}
use Rattle.listing.specs.Listing.{line}

-- The words of an instruction, in the list's order.
abbrev pub words_of : Insn → List ℕ
words_of i = i.op ∷ i.imm ∷ i.vb ∷ i.vc ∷ i.vd ∷ i.md ∷ []

-- A form with the name of op and every digit d.
unfoldable pub spelled : ℕ → ℕ → Form → List ℕ
spelled d op [] = []
spelled d op (lit c ∷ f) = (c ∷ []) ++ spelled d op f
spelled d op (dec w ∷ f) = replicate w (48 + d) ++ spelled d op f
spelled d op (hex w ∷ f) = replicate w (48 + d) ++ spelled d op f
spelled d op (name ∷ f) = name_of op ++ spelled d op f

-- How many bytes the line of op has.
abbrev pub line_length : ℕ → ℕ
line_length op = 38 + length (name_of op)

-- A table has, for each op, its line with every digit d, from byte 48 * op on.
abbrev pub RowsOf : ℕ → List ℕ → Type 0
RowsOf d table = (op j : ℕ) → 0 < op → op ≤ 16 → j < line_length op → get_or table (48 * op + j) 0 ≡ get_or (spelled d op line) j 0

abbrev pub Rows : List ℕ → List ℕ → Type 0
Rows lows highs = RowsOf 0 lows × RowsOf 9 highs

-- 48 bytes of a text lie between those of two tables.
abbrev pub Between : List ℕ → List ℕ → List ℕ → ℕ → ℕ → Type 0
Between lows highs t at from =
    (j : ℕ) → j < 48 → (get_or lows (from + j) 0 ≤ get_or t (at + j) 0) × (get_or t (at + j) 0 ≤ get_or highs (from + j) 0)

-- Bytes as two digits, and as five: 48 * 11 + 112 is 5 * 2 ^ 7, and 48 * 11111 + 122032 is 5 * 2 ^ 17. Of bytes that are no digits, some number.
abbrev pub two_of : List ℕ → ℕ → ℕ
two_of t at = (get_or t at 0 * 10 + get_or t (at + 1) 0 + 112) % 128

abbrev pub five_of : List ℕ → ℕ → ℕ
five_of t at =
    ((((get_or t at 0 * 10 + get_or t (at + 1) 0) * 10 + get_or t (at + 2) 0) * 10 + get_or t (at + 3) 0) * 10 + get_or t (at + 4) 0 + 122032) % 131072

-- The instruction of a line of op that ends at a position.
unfoldable pub insn_before : List ℕ → ℕ → ℕ → Insn
insn_before t op end =
    record {
      op = op;
      imm = five_of t (end - 31);
      vb = two_of t (end - 22);
      vc = two_of t (end - 16);
      vd = two_of t (end - 10);
      md = two_of t (end - 3);
    }

-- What the line of an instruction has after imm.
unfoldable pub fields_of : List ℕ → List ℕ
fields_of ns =
    (bytes " vb=" ++ digits 10 2 (get_or ns 2 0))
    ++ ((bytes " vc=" ++ digits 10 2 (get_or ns 3 0))
    ++ ((bytes " vd=" ++ digits 10 2 (get_or ns 4 0)) ++ ((bytes " mod=" ++ digits 10 2 (get_or ns 5 0)) ++ bytes "\n")))

-- A line stands at a position, with an instruction and the position after it.
pub record LineAt (t : List ℕ) (at end : ℕ) (i : Insn) : Type 0 where
  pub scanned : scan line (drop at t) ≡ taken (words_of i) (drop end t)
  pub within : end ≤ length t

-- It is plainly good: no check refuses the instruction.
pub record PlainAt (t : List ℕ) (at end : ℕ) : Type 0 where
  pub insn : Insn
  pub stands : LineAt t at end insn
  pub accepted : instruction_answer true insn ≡ 0

-- Every instruction of a list has an op with a name.
abbrev pub Named : List ℕ → Type 0
Named list = (k : ℕ) → k < count_of list → (0 < get_or list (6 * k) 0) × (get_or list (6 * k) 0 ≤ 16)

-- How a host lays out in words what the layers below take and return as records.
use Rattle.std.specs.Prelude.{ℕ, List, [], ◌∷◌, ◌++◌, get_or, eqb}
use Rattle.lane.specs.declared.Settings.{Settings}
use Rattle.lane.specs.declared.Insn.{Insn}
use Rattle.lane.specs.declared.Cells.{Cells}
use Rattle.lane.specs.Words.{pick}
use Rattle.runner.specs.declared.Outcome.{Outcome}
use Rattle.runner.specs.declared.walk.Walk.{Walk}
use Rattle.runner.specs.declared.walk.Begun.{Begun}
use Rattle.listing.specs.declared.Reading.{Reading}
use Rattle.listing.specs.declared.Writing.{Writing}

-- Six words are an instruction, in the list's order.
unfoldable pub insn_of : List ℕ → Insn
insn_of ws =
    record {
      op = get_or ws 0 0;
      imm = get_or ws 1 0;
      vb = get_or ws 2 0;
      vc = get_or ws 3 0;
      vd = get_or ws 4 0;
      md = get_or ws 5 0;
    }

-- An outcome is twenty words: answer, steps, place, cursor, the ties of columns 0 to 7, and the stores of columns 0 to 7.
unfoldable pub outcome_words : Outcome → List ℕ
outcome_words o = o.answer ∷ (o.steps ∷ (o.place ∷ (o.cursor ∷ (o.ties ++ o.stores))))

-- A walk is two words: at, cursor.
unfoldable pub walk_of : List ℕ → Walk
walk_of ws = record { at = get_or ws 0 0; cursor = get_or ws 1 0 }

-- What the start of a walk returns is four: answer, steps 0, place, cursor; its walk is put into the two that are lent, and a refusal leaves these.
unfoldable pub begun_words : Begun → List ℕ
begun_words b = b.answer ∷ (0 ∷ (b.place ∷ (b.walk.cursor ∷ [])))

unfoldable pub walk_begun : Begun → List ℕ → List ℕ
walk_begun b before = pick (eqb b.answer 0) (b.walk.at ∷ (b.walk.cursor ∷ [])) before

-- A lane's two cells: even, odd.
unfoldable pub cells_words : Cells → List ℕ
cells_words c = c.even ∷ (c.odd ∷ [])

-- Settings as eight words, and what a reading and a writing return as five: answer, steps, place, cursor, length.
unfoldable pub settings_words : Settings → List ℕ
settings_words s =
    s.edition ∷ (s.srcb ∷ (s.offset ∷ (s.cursor ∷ (s.stride0 ∷ (s.stride1 ∷ (s.stride2 ∷ (s.stride3 ∷ [])))))))

unfoldable pub reading_words : Reading → List ℕ
reading_words r = r.answer ∷ (r.steps ∷ (r.place ∷ (r.cursor ∷ (r.length ∷ []))))

unfoldable pub writing_words : Writing → List ℕ
writing_words r = r.answer ∷ (r.steps ∷ (r.place ∷ (r.cursor ∷ (r.length ∷ []))))

-- What the library replays: 1000 is document 01 by itself, and 1000 plus n is with the requests of document 02 up to M-n.
abbrev pub version : ℕ
version = 1106

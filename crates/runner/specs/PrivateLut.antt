-- Pass over this page with document 01 in the other hand: it is the vocabulary of private functions, and no promise rests on it. It has
-- LUT by rows: rows of floats, and the one store of a lane.
use Rattle.std.specs.Prelude.{◌≡◌, ℕ, ◌<◌, Bool, true, false, not, List, [], ◌∷◌, ◌==◌, slice_index_or, Float}
use Rattle.std.specs.Float.{nan}
use Rattle.lane.specs.Words.{Lane, Stores}
use Rattle.lane.specs.Lut.{lut_stores, lut_answer, result_of}
use Rattle.runner.specs.declared.lut.Answers.{Answers}
use Rattle.runner.specs.PrivateRows.{full, row}

-- A row of floats has f's number in each lane.
abbrev pub Numbers : (ℕ → Float) → List Float → Type 0
Numbers f xs = (L : ℕ) → L < 32 → slice_index_or xs L nan ≡ f L

-- A mask has ones.
abbrev pub is_set : ℕ → Bool
is_set mask = not (mask == 0)

-- The result of a lane.
abbrev pub result_in : Lane → Float
result_in own = result_of (own 0) (own 1) (own 2) (own 3)

-- What is stored in a lane, one store or none, by whether it acts.
abbrev pub answered : ℕ → ℕ → Bool → ℕ → Float → Stores
answered m r3 acting r x = lut_stores m r3 (lut_answer acting r x)

-- The word that one store, or none, leaves where its slot holds `old`.
abbrev pub stored_word : Stores → ℕ → ℕ
stored_word [] old = old
stored_word (s ∷ rest) old = s.1

-- The slot of one store, or register 0's for none.
abbrev pub stored_slot : Stores → ℕ
stored_slot [] = 0
stored_slot (s ∷ rest) = s.0

-- Whether there is a store.
abbrev pub is_made : Stores → Bool
is_made [] = false
is_made (s ∷ rest) = true

-- The answers of all lanes: the words that they are left with, `old` where there is none, their slots, and the masks of whether there is one.
pub record Answered (made : ℕ → Stores) (old : ℕ → ℕ) (answers : Answers) : Type 0 where
  pub words_are : answers.words ≡ row (λ L. stored_word (made L) (old L))
  pub slots_are : answers.slots ≡ row (λ L. stored_slot (made L))
  pub marks_are : answers.marks ≡ row (λ L. full (is_made (made L)))

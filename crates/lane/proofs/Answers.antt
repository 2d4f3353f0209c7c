-- The lane rules' answer, words and cells together. Assumes nothing.
use Rattle.std.proofs.Common.{◌≡◌, ℕ, ◌≤◌, Bool, true, false, not, ◌&&◌, eqb, leb, List, sym, refl, ◌∙◌, eq-eqb, ne_eqb, leb-true, arith}
use borrow.Author.Tests.{eqb-false}
use Rattle.lane.specs.declared.Cells.{Cells}
use Rattle.lane.specs.declared.Refusal.{Refusal}
use Rattle.lane.specs.declared.Refusal.TheVariants.{ImageSize, DstSize, Setting, ListShape, ListLimit, ImageForm, UnknownOp, Field, LoadMod, Text, Room, Step}
use Rattle.lane.specs.declared.Stepped.{Stepped}
use Rattle.lane.specs.declared.Settings.{Settings}
use Rattle.lane.specs.declared.Insn.{Insn}
use Rattle.lane.specs.Words.{pick, Lane}
use Rattle.lane.specs.Refusals.{number, pass, instruction_answer, lane_answer, settings_good, well_formed, op_known, fields_good, wide_load}
use Rattle.lane.proofs.Cases.{pick_true, pick_false}

-- no refusal has the number 0
pub numbered : (why : Refusal) → number why ≡ 0 → ⊥
numbered ImageSize h = omega (arith, h)
numbered DstSize h = omega (arith, h)
numbered Setting h = omega (arith, h)
numbered ListShape h = omega (arith, h)
numbered ListLimit h = omega (arith, h)
numbered ImageForm h = omega (arith, h)
numbered UnknownOp h = omega (arith, h)
numbered Field h = omega (arith, h)
numbered LoadMod h = omega (arith, h)
numbered Text h = omega (arith, h)
numbered Room h = omega (arith, h)
numbered Step h = omega (arith, h)

pub accepted : (a : ℕ) (w x own : List ℕ) (c y given : Cells) → a ≡ 0 → w ≡ x → c ≡ y
    → ◌≡◌ {A = Stepped} (record { answer = 0; words = w; cells = c })
    (record { answer = a; words = pick (eqb a 0) x own; cells = pick (eqb a 0) y given })
accepted a w x own c y given h e f =
    λ i.
    record {
      answer = sym h i;
      words = (e ∙ sym (pick_true (eqb a 0) x own (eq-eqb a 0 h))) i;
      cells = (f ∙ sym (pick_true (eqb a 0) y given (eq-eqb a 0 h))) i;
    }

pub refused : (a n : ℕ) (x own : List ℕ) (y given : Cells) → n ≡ a → (n ≡ 0 → ⊥)
    → ◌≡◌ {A = Stepped} (record { answer = n; words = own; cells = given })
    (record { answer = a; words = pick (eqb a 0) x own; cells = pick (eqb a 0) y given })
refused a n x own y given e h =
    λ i.
    record {
      answer = e i;
      words = sym (pick_false (eqb a 0) x own other) i;
      cells = sym (pick_false (eqb a 0) y given other) i;
    }
  where
    other : eqb a 0 ≡ false
    other = ne_eqb a 0 (λ z. h (e ∙ z))

-- an instruction that is answered 0 has a known op, good fields, and what 8 asks besides them
pub unrefused : (k g also w : Bool) → pass k 7 (pass (g && also) 8 (pass w 9 0)) ≡ 0 → (k ≡ true) × ((g ≡ true) × (also ≡ true))
unfolding pass pick
unrefused false g also w h = absurd (eqb-false 7 0 refl h)
unrefused true false also w h = absurd (eqb-false 8 0 refl h)
unrefused true true false w h = absurd (eqb-false 8 0 refl h)
unrefused true true true w h = (refl, (refl, refl))

refusals : (s o : Bool) (n : ℕ) → pass s 3 (pass o 6 n) ≡ 0 → n ≡ 0
unfolding pass pick
refusals false o n h = absurd (eqb-false 3 0 refl h)
refusals true false n h = absurd (eqb-false 6 0 refl h)
refusals true true n h = h

-- so the lane rules answer 0 for lanes 0 to 31 only
pub accepted_lane : (s : Settings) (L : ℕ) (i : Insn) (own head : Lane) → lane_answer s L i own head ≡ 0 → L ≤ 31
unfolding lane_answer instruction_answer
accepted_lane s L i own head h =
    leb-true L 31
    (unrefused (op_known i.op) (fields_good i.op i) (leb L 31) (not (wide_load i.op i.md))
    (refusals (settings_good s) (well_formed own && well_formed head) (instruction_answer (leb L 31) i) h)
    ).1.1

use Rattle.std.proofs.Common.{ℕ, ◌%◌, get_or}
use Rattle.lane.specs.Swap.{acts}
use Rattle.runner.proofs.Filled.{Filled}
use Rattle.runner.specs.Image.{lane_in}
use Rattle.runner.specs.PrivateLut.{answered, stored_word, stored_slot, is_made}
use Rattle.runner.specs.PrivateRows.{full}
use lib.Ieee.{nan}
use Rattle.runner.proofs.lut.named_answers.Given as goal

abbrev pub invariant-loop-n : goal.invariant-loop-n
invariant-loop-n l =
    let made = λ (L : ℕ). answered l.i.md (get_or l.r3 L 0) (acts l.i.vd (lane_in l.image L)) (lane_in l.image L 7 % 16) (get_or l.x L nan) in
    record {
      words : Filled (λ (L : ℕ). stored_word (made L) (get_or l.r0 L 0)) l.n l.answers.words;
      slots : Filled (λ (L : ℕ). stored_slot (made L)) l.n l.answers.slots;
      marks : Filled (λ (L : ℕ). full (is_made (made L))) l.n l.answers.marks;
    }

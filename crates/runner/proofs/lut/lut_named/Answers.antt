use Rattle.std.proofs.Common.{ℕ, ◌%◌, get_or, ◌∙◌}
use Rattle.lane.specs.Lut.{lut}
use Rattle.lane.specs.Swap.{acts}
use Rattle.lane.specs.Words.{register_stores}
use Rattle.runner.proofs.Filled.{operand}
use Rattle.runner.proofs.LutRows.{storing_after, named_lane, named_count, slot_below}
use Rattle.runner.proofs.Tallied.{are_marks, row_marks, times_one}
use Rattle.runner.specs.Image.{lane_in}
use Rattle.runner.specs.PrivateLut.{answered, is_made}
use lib.Ieee.{nan}
use Rattle.runner.proofs.lut.lut_named.Goals as goal

pub scatter-requires : goal.scatter-requires
scatter-requires c = let a = c.args in λ L l. rw (operand _ _ c.named_answers-answers.ensures.slots_are L l) (slot_below a.i.md (get_or c.slot_row-r3.result L 0) (acts a.i.vd (lane_in a.image.now L)) (lane_in a.image.now L 7 % 16) (get_or a.x.now L nan))

pub count_marked-requires-clause-masks : goal.count_marked-requires-clause-masks
count_marked-requires-clause-masks c = let a = c.args in are_marks _ 0 (λ (L : ℕ). is_made (answered a.i.md (get_or c.slot_row-r3.result L 0) (acts a.i.vd (lane_in a.image.now L)) (lane_in a.image.now L 7 % 16) (get_or a.x.now L nan))) (row_marks _ _ (operand _ _ c.named_answers-answers.ensures.marks_are))

pub returns : goal.returns
returns c =
    let a = c.args in
    let image = a.image.now in
    let answers = c.named_answers-answers.ensures in
    let made = λ (L : ℕ). is_made (answered a.i.md (get_or c.slot_row-r3.result L 0) (acts a.i.vd (lane_in image L)) (lane_in image L 7 % 16) (get_or a.x.now L nan)) in
    (storing_after image _ _ _ c.scatter.ensures (λ L s l. rw (operand _ _ answers.slots_are L l, operand _ _ answers.words_are L l) (named_lane a.i (lane_in image L) s _ _ _ (operand _ _ c.slot_row-r3.ensures L l) (c.requires.results L l) c.requires.md (operand _ _ c.slot_row-r0.ensures L l))), c.count_marked.ensures made (row_marks _ _ (operand _ _ answers.marks_are)) ∙ times_one a.stores.now made (λ (L : ℕ). register_stores (lut a.i (lane_in image L))) (λ L l. named_count a.i (lane_in image L) (get_or c.slot_row-r3.result L 0) (get_or a.x.now L nan) c.requires.md))

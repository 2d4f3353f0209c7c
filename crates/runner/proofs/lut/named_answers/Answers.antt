use Rattle.std.proofs.Common.{get_or}
use Rattle.runner.proofs.Filled.{fill_more, fill_end}
use Rattle.runner.proofs.LutRows.{answer_by}
use Rattle.runner.specs.Image.{lane_in}
use Rattle.runner.proofs.lut.named_answers.Goals as goal

pub loop-n-preserved : goal.loop-n-preserved
loop-n-preserved c =
    let a = c.args in
    let n = c.loop-n.n in
    let inv = c.loop-n.invariant in
    let answer = answer_by a.i.vd (lane_in a.image.now n) _ _ _ _ _ c.word_at.ensures c.word_at-register.ensures (c.requires.mask_is n c.loop-n-test.true) (rw c.may_act-free.ensures at c.lut_answer-answer.ensures) in
    record {
      words = fill_more _ _ _ _ c.loop-n-test.true inv.words (rw answer at c.answer_word.ensures);
      slots = fill_more _ _ _ _ c.loop-n-test.true inv.slots (rw answer at (c.answer_slot.ensures a.i.md (get_or a.r3.now n 0)));
      marks = fill_more _ _ _ _ c.loop-n-test.true inv.marks (rw answer at (c.answer_mark.ensures a.i.md (get_or a.r3.now n 0)));
    }

pub returns : goal.returns
returns c =
    let inv = c.loop-n.invariant in
    let done = c.loop-n-test.false in
    record { words_are = fill_end _ _ _ done inv.words; slots_are = fill_end _ _ _ done inv.slots; marks_are = fill_end _ _ _ done inv.marks }

use Rattle.runner.proofs.Walks.{back_good, called_done, called_refused, back_made}
use Rattle.runner.specs.Walk.{standing, back, moved}
use Rattle.std.proofs.Common.{sym, ◌∙◌, arith}
use Rattle.runner.proofs.walk.back.Goals as goal

pub returns-then-answer-ne0 : goal.returns-then-answer-ne0
returns-then-answer-ne0 c =
    let a = c.args in
    called_refused back a.s a.list.now (standing a.w a.image.now a.dst.now a.store.now) _ (c.number_of-answer.ensures ∙ c.back_answer.ensures) c.if-answer-ne0.true

pub overflow_sub-at : goal.overflow_sub-at
overflow_sub-at c =
    let a = c.args in
    let g = back_good a.s a.list.now (standing a.w a.image.now a.dst.now a.store.now) (sym (c.number_of-answer.ensures ∙ c.back_answer.ensures) ∙ c.if-answer-ne0.false) in
    omega (arith, g.some)

pub step_back-cursor-requires : goal.step_back-cursor-requires
step_back-cursor-requires c =
    let a = c.args in
    let g = back_good a.s a.list.now (standing a.w a.image.now a.dst.now a.store.now) (sym (c.number_of-answer.ensures ∙ c.back_answer.ensures) ∙ c.if-answer-ne0.false) in
    (omega (arith, g.some, g.few), (omega (arith, g.some, g.few, g.passed.list_given.few), omega (arith, g.some, g.room)))

pub returns : goal.returns
unfolding moved
returns c =
    let a = c.args in
    let x = standing a.w a.image.now a.dst.now a.store.now in
    called_done back a.s a.list.now x _ (c.number_of-answer.ensures ∙ c.back_answer.ensures) _ c.if-answer-ne0.false
    (back_made a.list.now a.store.now a.image.now a.dst.now _ _ a.w.at a.w.cursor _ (rw c.in-Some-as_mut_array.ensures.cases.same at c.step_back-cursor.ensures))

pub unreachable-requires : goal.unreachable-requires
unreachable-requires c =
    let a = c.args in
    c.in_default.ensures.cases (back_good a.s a.list.now (standing a.w a.image.now a.dst.now a.store.now) (sym (c.number_of-answer.ensures ∙ c.back_answer.ensures) ∙ c.if-answer-ne0.false)).passed.image_long

pub unreachable-requires-in_default-as_mut_array : goal.unreachable-requires-in_default-as_mut_array
unreachable-requires-in_default-as_mut_array c =
    let a = c.args in
    c.in_default-as_mut_array.ensures.cases (back_good a.s a.list.now (standing a.w a.image.now a.dst.now a.store.now) (sym (c.number_of-answer.ensures ∙ c.back_answer.ensures) ∙ c.if-answer-ne0.false)).passed.dst_long

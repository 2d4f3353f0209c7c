use Rattle.runner.proofs.Walks.{forward_good, called_done, called_refused}
use Rattle.runner.specs.Walk.{standing, forward, moved}
use Rattle.std.proofs.Common.{sym, ◌∙◌, arith}
use Rattle.runner.proofs.walk.forward.Goals as goal

pub returns-then-not-accepted : goal.returns-then-not-accepted
returns-then-not-accepted c =
    let a = c.args in
    called_refused forward a.s a.list.now (standing a.w a.image.now a.dst.now a.store.now) _ (c.number_of-answer.ensures ∙ c.forward_answer.ensures) (λ z. omega (arith, z, c.if-not-accepted.true))

pub step_kept-cursor-requires : goal.step_kept-cursor-requires
step_kept-cursor-requires c =
    let a = c.args in
    let g = forward_good a.s a.list.now (standing a.w a.image.now a.dst.now a.store.now) (sym (c.number_of-answer.ensures ∙ c.forward_answer.ensures) ∙ (omega (arith, c.if-not-accepted.false))) in
    (omega (arith, g.next), (omega (arith, g.next, g.passed.list_given.few), g.room))

pub overflow_add-result : goal.overflow_add-result
overflow_add-result c =
    let a = c.args in
    let g = forward_good a.s a.list.now (standing a.w a.image.now a.dst.now a.store.now) (sym (c.number_of-answer.ensures ∙ c.forward_answer.ensures) ∙ (omega (arith, c.if-not-accepted.false))) in
    omega (arith, g.next, g.passed.list_given.few)

pub returns : goal.returns
unfolding moved
returns c =
    let a = c.args in
    called_done forward a.s a.list.now (standing a.w a.image.now a.dst.now a.store.now) _ (c.number_of-answer.ensures ∙ c.forward_answer.ensures) _ (omega (arith, c.if-not-accepted.false))
    (rw (c.in-Some.ensures.cases.same, c.in-Some-as_mut_array.ensures.cases.same) at c.step_kept-cursor.ensures)

pub unreachable-requires : goal.unreachable-requires
unreachable-requires c =
    let a = c.args in
    c.in_default.ensures.cases (forward_good a.s a.list.now (standing a.w a.image.now a.dst.now a.store.now) (sym (c.number_of-answer.ensures ∙ c.forward_answer.ensures) ∙ (omega (arith, c.if-not-accepted.false)))).passed.image_long

pub unreachable-requires-in_default-as_mut_array : goal.unreachable-requires-in_default-as_mut_array
unreachable-requires-in_default-as_mut_array c =
    let a = c.args in
    c.in_default-as_mut_array.ensures.cases (forward_good a.s a.list.now (standing a.w a.image.now a.dst.now a.store.now) (sym (c.number_of-answer.ensures ∙ c.forward_answer.ensures) ∙ (omega (arith, c.if-not-accepted.false)))).passed.dst_long

use Rattle.runner.proofs.Counts.{zeros_are}
use Rattle.runner.proofs.Steps.{run_sized, ran_done, ran_refused}
use Rattle.runner.specs.Checks.{found}
use Rattle.std.proofs.Common.{◌∙◌, arith}
use Rattle.runner.proofs.run.run.Goals as goal

pub returns-then-not-accepted : goal.returns-then-not-accepted
returns-then-not-accepted c = let a = c.args in let t = c.told-answer in
    ran_refused a.s a.image.now a.dst.now a.list.now (found t.result.0 t.result.1) (t.ensures ∙ c.run_answer.ensures) _ _ zeros_are zeros_are (λ z. omega (arith, z, c.if-not-accepted.true))

pub step_list-ended-requires : goal.step_list-ended-requires
step_list-ended-requires c = let a = c.args in let t = c.told-answer in
    (run_sized a.s a.image.now a.dst.now a.list.now (found t.result.0 t.result.1) (t.ensures ∙ c.run_answer.ensures) (omega (arith, c.if-not-accepted.false))).1.1

pub overflow_cast-result : goal.overflow_cast-result
overflow_cast-result c = let a = c.args in let t = c.told-answer in
    omega (arith, (run_sized a.s a.image.now a.dst.now a.list.now (found t.result.0 t.result.1) (t.ensures ∙ c.run_answer.ensures) (omega (arith, c.if-not-accepted.false))).1.1)

pub returns : goal.returns
returns c = let a = c.args in let t = c.told-answer in
    ran_done a.s a.image.now a.dst.now a.list.now (found t.result.0 t.result.1) (t.ensures ∙ c.run_answer.ensures) _ _ _ _ _ (omega (arith, c.if-not-accepted.false)) (rw (c.in-Some.ensures.cases.same, c.in-Some-as_mut_array.ensures.cases.same) at c.step_list-ended.ensures)

pub unreachable-requires : goal.unreachable-requires
unreachable-requires c = let a = c.args in let t = c.told-answer in
    c.in_default.ensures.cases (run_sized a.s a.image.now a.dst.now a.list.now (found t.result.0 t.result.1) (t.ensures ∙ c.run_answer.ensures) (omega (arith, c.if-not-accepted.false))).0

pub unreachable-requires-in_default-as_mut_array : goal.unreachable-requires-in_default-as_mut_array
unreachable-requires-in_default-as_mut_array c = let a = c.args in let t = c.told-answer in
    c.in_default-as_mut_array.ensures.cases (run_sized a.s a.image.now a.dst.now a.list.now (found t.result.0 t.result.1) (t.ensures ∙ c.run_answer.ensures) (omega (arith, c.if-not-accepted.false))).1.0

use Rattle.lane.proofs.Answers.{numbered}
use Rattle.runner.proofs.Walks.{lent_given, next_given}
use Rattle.runner.specs.Walk.{standing, forward}
use Rattle.std.proofs.Common.{refl}
use Rattle.std.proofs.lemmas.Result.{err_from_is_err_and}
use Rattle.runner.proofs.walk.forward_answer.Goals as goal

pub returns-in_err-lent_answer : goal.returns-in_err-lent_answer
returns-in_err-lent_answer c =
    let a = c.args in
    let x = standing a.w a.image.now a.dst.now a.store.now in
    let p = err_from_is_err_and c.from_residual.result c.from_residual.ensures.1 in
    rw (p.1, p.2) (lent_given a.s a.list.now x _ c.in_err-lent_answer.ensures forward (numbered _))

pub returns : goal.returns
returns c =
    let a = c.args in
    let x = standing a.w a.image.now a.dst.now a.store.now in
    next_given a.s a.list.now x _ c.in_ok-lent_answer.ensures _ refl c.next_answer.ensures

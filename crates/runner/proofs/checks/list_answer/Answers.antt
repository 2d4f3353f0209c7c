use Rattle.lane.proofs.Answers.{numbered}
use Rattle.lane.proofs.Cases.{if_eq, if_ne}
use Rattle.runner.proofs.Accepted.{given, given_short}
use Rattle.runner.specs.Checks.{found, list_answer, then_scanned}
use Rattle.std.proofs.Common.{ℕ, sym, ap, ◌∙◌}
use Rattle.std.proofs.lemmas.Result.{err_from_is_err_and}
use Rattle.runner.proofs.checks.list_answer.Goals as goal

pub returns-in_err-given_answer : goal.returns-in_err-given_answer
unfolding list_answer then_scanned
returns-in_err-given_answer c =
    let p = err_from_is_err_and c.from_residual.result c.from_residual.ensures.1 in
    let e = c.in_err-given_answer.ensures in
    rw (p.1, p.2) (if_ne _ _ _ _ _ (λ z. numbered _ (e ∙ z)) (ap (λ (n : ℕ). found n 0) e))

pub scanned-requires : goal.scanned-requires
scanned-requires c = given_short _ _ (given _ _ (sym c.in_ok-given_answer.ensures))

pub returns : goal.returns
unfolding list_answer then_scanned
returns c = if_eq _ _ _ _ _ (sym c.in_ok-given_answer.ensures) c.scanned.ensures

use Rattle.lane.specs.Refusals.{pass}
use Rattle.lane.proofs.Answers.{numbered}
use Rattle.lane.proofs.Cases.{if_true, if_false, if_eq, if_ne}
use Rattle.runner.specs.Checks.{first_answer}
use Rattle.std.proofs.Common.{sym, refl, ◌∙◌}
use Rattle.std.proofs.lemmas.Result.{err_from_is_err_and}
use Rattle.runner.proofs.checks.first_answer.Goals as goal

pub returns-then-is_cut : goal.returns-then-is_cut
unfolding first_answer pass
returns-then-is_cut c = if_ne _ _ _ _ _ c.if-is_cut.true refl

pub returns-then-dst-ne16384 : goal.returns-then-dst-ne16384
unfolding first_answer pass
returns-then-dst-ne16384 c = if_eq _ _ _ _ _ c.if-is_cut.false (if_ne _ _ _ _ _ c.if-dst-ne16384.true refl)

pub returns-in_err-given_answer : goal.returns-in_err-given_answer
unfolding first_answer pass
returns-in_err-given_answer c =
    let p = err_from_is_err_and c.from_residual.result c.from_residual.ensures.1 in
    let e = c.in_err-given_answer.ensures in
    rw (p.1, p.2) (if_eq _ _ _ _ _ c.if-is_cut.false (if_eq _ _ _ _ _ c.if-dst-ne16384.false (if_ne _ _ _ _ _ (λ z. numbered _ (e ∙ z)) e)))

pub returns-then-not-image_good : goal.returns-then-not-image_good
unfolding first_answer pass
returns-then-not-image_good c = if_eq _ _ _ _ _ c.if-is_cut.false (if_eq _ _ _ _ _ c.if-dst-ne16384.false (if_eq _ _ _ _ _ (sym c.in_ok-given_answer.ensures) (if_false _ _ _ _ (rw (c.image_good.ensures, c.in-Some.ensures.cases.same) at c.if-not-image_good.true) refl)))

pub returns : goal.returns
unfolding first_answer pass
returns c = if_eq _ _ _ _ _ c.if-is_cut.false (if_eq _ _ _ _ _ c.if-dst-ne16384.false (if_eq _ _ _ _ _ (sym c.in_ok-given_answer.ensures) (if_true _ _ _ _ (rw (c.image_good.ensures, c.in-Some.ensures.cases.same) at c.if-not-image_good.false) refl)))

pub unreachable-requires : goal.unreachable-requires
unreachable-requires c = c.in_default.ensures.cases c.if-is_cut.false

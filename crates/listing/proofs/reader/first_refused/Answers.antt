use Rattle.std.proofs.Common.{refl, sym}
use Rattle.std.proofs.lemmas.Result.{err_from_is_err_and}
use Rattle.lane.proofs.Answers.{numbered}
use Rattle.lane.proofs.Cases.{if_ne}
use Rattle.runner.specs.Checks.{found, insn_at}
use Rattle.listing.specs.PrivateReader.{first_refused}
use Rattle.listing.proofs.Readers.{kept, first_one}
use Rattle.listing.proofs.reader.first_refused.Goals as goal

pub returns-in_err-found : goal.returns-in_err-found
unfolding first_refused
returns-in_err-found c =
    let p = err_from_is_err_and c.from_residual.result c.from_residual.ensures.1 in
    let was = c.in_err-found.was in
    rw (p.1, p.2, was) (if_ne _ _ _ _ _ (numbered c.in_err-found.field-0.0.why) refl)

pub returns-in-Err : goal.returns-in-Err
unfolding insn_at
returns-in-Err c = let e = (rw c.from-insn.ensures at c.in-Err.ensures) in let was = c.in_ok-found.was in rw was (first_one _ _ _ e (numbered c.in-Err.why))

pub returns : goal.returns
unfolding insn_at
returns c = let e = (rw c.from-insn.ensures at c.in_default.ensures) in let was = c.in_ok-found.was in rw was (kept (found 0 0) _ _ refl (sym e))

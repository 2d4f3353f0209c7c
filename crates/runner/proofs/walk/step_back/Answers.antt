use Rattle.runner.proofs.Walks.{entry_part}
use Rattle.runner.specs.Checks.{insn_at}
use Rattle.std.proofs.Common.{◌∙◌}
use Rattle.runner.proofs.walk.step_back.Goals as goal

pub returns : goal.returns
unfolding insn_at
returns c =
    let a = c.args in
    (rw c.in-Some.ensures.cases.same at c.bring_back.ensures) ∙ entry_part _ a.k a.store.now a.dst.now

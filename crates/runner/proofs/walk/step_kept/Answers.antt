use Rattle.runner.proofs.Walks.{step_made}
use Rattle.runner.proofs.walk.step_kept.Goals as goal

pub returns : goal.returns
returns c =
    let a = c.args in
    step_made a.s a.list.now a.store.now a.image.now a.dst.now _ _ _ _ _ a.k a.cursor _ _ _ c.requires.0 c.insn_at-i.ensures c.address-a.ensures c.keep.ensures c.step_list-ended.ensures

use Rattle.std.proofs.Common.{arith}
use Rattle.lane.specs.Rule.{lanewise, stores_of}
use Rattle.lane.specs.Words.{pick}
use Rattle.runner.proofs.Steps.{flagged_arm, flagged_op, changes_sets}
use Rattle.runner.proofs.run.step_flagged.Goals as goal

pub returns-in-6 : goal.returns-in-6
unfolding stores_of lanewise pick
returns-in-6 c = let a = c.args in flagged_arm a.i _ _ _ _ c.iadd.ensures.0 a.go.now a.owed a.stores.now _ (changes_sets a.i.op a.i.md c.requires.flags) c.requires.enabled c.settle.ensures c.iadd.ensures.1 (λ s x dst L. simp c.in-6.is)

pub returns-in-12 : goal.returns-in-12
unfolding stores_of lanewise pick
returns-in-12 c = let a = c.args in flagged_arm a.i _ _ _ _ c.lz.ensures.0 a.go.now a.owed a.stores.now _ (changes_sets a.i.op a.i.md c.requires.flags) c.requires.enabled c.settle-in-12.ensures c.lz.ensures.1 (λ s x dst L. simp c.in-12.is)

pub returns-in_default : goal.returns-in_default
unfolding stores_of lanewise pick
returns-in_default c = let a = c.args in flagged_arm a.i _ _ _ _ c.exexp.ensures.0 a.go.now a.owed a.stores.now _ (changes_sets a.i.op a.i.md c.requires.flags) c.requires.enabled c.settle-in_default.ensures c.exexp.ensures.1 (λ s x dst L. simp (flagged_op a.i.op (changes_sets a.i.op a.i.md c.requires.flags) (omega arith) (omega arith)))

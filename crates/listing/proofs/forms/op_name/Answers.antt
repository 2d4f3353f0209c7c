use Rattle.std.proofs.Common.{arith, below_more}
use mathlib.Core.Path.{sym, ◌∙◌}
use native.Mathlib.Nat.{zero-add}
use Rattle.listing.proofs.Scans.{begins_is, name_found, name_missing}
use Rattle.listing.proofs.forms.op_name.Goals as goal

pub returns-then-starts_with : goal.returns-then-starts_with
returns-then-starts_with c = let a = c.args in let b = c.starts_with.ensures.value ∙ begins_is c.name_of-name.result.now a.text.now in
    rw c.name_of-name.ensures (rw zero-add at (name_found a.text.now 0 c.loop-op.op (omega arith) (omega arith) (omega arith) (rw c.name_of-name.ensures at (sym b ∙ c.if-starts_with.true))))

pub loop-op-preserved : goal.loop-op-preserved
loop-op-preserved c = let a = c.args in let b = c.starts_with.ensures.value ∙ begins_is c.name_of-name.result.now a.text.now in
    below_more _ _ c.loop-op.invariant (λ _. rw c.name_of-name.ensures at (sym b ∙ c.if-starts_with.false))

pub returns : goal.returns
returns c = let a = c.args in name_missing a.text.now 0 (λ k l. c.loop-op.invariant k (omega arith))

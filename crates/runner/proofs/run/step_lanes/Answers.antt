use Rattle.runner.proofs.Steps.{met_left, stored_left}
use Rattle.std.proofs.Common.{sym, ◌∙◌}
use Rattle.runner.proofs.run.step_lanes.Goals as goal

pub returns-then-meets_dst : goal.returns-then-meets_dst
returns-then-meets_dst c = met_left _ _ _ _ _ _ _ _ _ _ _ c.args.owed _ _ (sym c.meets_dst.ensures ∙ c.if-meets_dst.true) c.requires.ties.eight c.address-a.ensures (rw c.stride.ensures at c.next_cursor.ensures) (c.step_dst.ensures c.args.owed)

pub returns : goal.returns
returns c = stored_left _ _ _ _ _ _ _ _ _ c.args.owed _ _ _ (sym c.meets_dst.ensures ∙ c.if-meets_dst.false) c.told-dst c.step_stored-due.ensures

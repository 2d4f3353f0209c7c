use Rattle.std.proofs.Common.{sym, rules}
use Rattle.lane.proofs.Stores.{after_one, after_past}
use Rattle.lane.proofs.step.put.Goals as goal

pub returns-then-slot-lt24 : goal.returns-then-slot-lt24
returns-then-slot-lt24 c = sym (after_one c.args.own c.args.slot c.args.word (search rules))

pub returns-else-slot-lt24 : goal.returns-else-slot-lt24
returns-else-slot-lt24 c = after_past c.args.own c.args.slot c.args.word (search rules) c.if-slot-lt24.false

use Rattle.runner.proofs.SwapRows.{exchanges_none}
use Rattle.runner.proofs.Tallied.{some_marks}
use Rattle.std.proofs.Common.{arith}
use Rattle.runner.proofs.swap.count_exchanges.Goals as goal

pub count_marked-requires-clause-masks : goal.count_marked-requires-clause-masks
count_marked-requires-clause-masks c = some_marks _ 96 (omega arith) c.requires.masks

pub returns-then-seen : goal.returns-then-seen
returns-then-seen c = c.count_marked.ensures _ (some_marks _ 96 (omega arith) c.requires.masks)

pub returns-else-seen : goal.returns-else-seen
returns-else-seen c = exchanges_none _ _ (c.requires.seen c.if-seen.false) c.requires.stores.eight

use Rattle.runner.proofs.SwapRows.{to_counted, to_none}
use Rattle.runner.proofs.Tallied.{some_marks}
use Rattle.runner.proofs.swap.count_to.Goals as goal

pub count_marked-requires-clause-masks : goal.count_marked-requires-clause-masks
count_marked-requires-clause-masks c = some_marks _ _ c.masks_at.ensures.0 c.requires.masks

pub returns-then-r-lt8 : goal.returns-then-r-lt8
returns-then-r-lt8 c = to_counted c.args.r c.masks_at.result c.args.t.now c.args.stores.now _ c.if-r-lt8.true c.masks_at.ensures.1 (c.count_marked.ensures _ (some_marks _ _ c.masks_at.ensures.0 c.requires.masks))

pub returns-else-r-lt8 : goal.returns-else-r-lt8
returns-else-r-lt8 c = to_none c.args.r c.args.t.now c.args.stores.now c.if-r-lt8.false c.requires.stores.eight

use Rattle.runner.proofs.SwapRows.{both_low, first_low, second_low, none_low}
use Rattle.runner.proofs.swap.store_both.Goals as goal

pub returns-then-i-lt8-2 : goal.returns-then-i-lt8-2
returns-then-i-lt8-2 c = let a = c.args in both_low a.image.now _ a.t.now a.i.vc a.i.vd _ _ c.if-i-lt8.true c.if-i-lt8-2.true c.masks_at.ensures.1 c.masks_at-then-i-lt8-2.ensures.1 c.exchange.ensures

pub returns-else-i-lt8-2 : goal.returns-else-i-lt8-2
returns-else-i-lt8-2 c = let a = c.args in first_low a.image.now _ a.t.now a.i.vc a.i.vd _ a.d.now c.if-i-lt8.true c.if-i-lt8-2.false c.masks_at-else-i-lt8-2.ensures.1 c.requires.d c.store_part.ensures

pub returns-then-i-lt8-3 : goal.returns-then-i-lt8-3
returns-then-i-lt8-3 c = let a = c.args in second_low a.image.now _ a.t.now a.i.vc a.i.vd _ a.c.now c.if-i-lt8.false c.if-i-lt8-3.true c.masks_at-then-i-lt8-3.ensures.1 c.requires.c c.store_part-then-i-lt8-3.ensures

pub returns-else-i-lt8-3 : goal.returns-else-i-lt8-3
returns-else-i-lt8-3 c = let a = c.args in none_low a.image.now a.image.now a.t.now a.i.vc a.i.vd c.told-image c.if-i-lt8.false c.if-i-lt8-3.false

use native.Mathlib.Omega.{arith}
use Rattle.listing.proofs.LineRows.{standing_start, standing_more, standing_end}
use Rattle.listing.proofs.lines.stands.Goals as goal

pub loop-j-init : goal.loop-j-init
loop-j-init c = let a = c.args in (omega arith, standing_start a.table.lows.now a.table.highs.now a.text.now a.at a.from _)

pub loop-j-preserved : goal.loop-j-preserved
loop-j-preserved c = let a = c.args in (omega arith, standing_more a.table.lows.now a.table.highs.now a.text.now a.at a.from c.loop-j.good c.loop-j.j c.loop-j.invariant.1)

pub returns : goal.returns
returns c = let a = c.args in standing_end a.table.lows.now a.table.highs.now a.text.now a.at a.from c.loop-j.good c.loop-j.j c.loop-j-test.false c.loop-j.invariant.1

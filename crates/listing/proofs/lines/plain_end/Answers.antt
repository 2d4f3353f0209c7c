use native.Mathlib.Omega.{arith}
use Rattle.listing.proofs.LineRows.{length_line, line_plain}
use Rattle.listing.proofs.lines.plain_end.Goals as goal

pub overflow_add-end : goal.overflow_add-end
overflow_add-end c = let g = c.guess_at-g in omega (arith, g.result.long, length_line g.result.op, c.if-text-at-lt48.false, c.requires)

pub fields-requires : goal.fields-requires
fields-requires c = let g = c.guess_at-g in (omega (arith, g.result.long), omega (arith, g.result.long, length_line g.result.op, c.if-text-at-lt48.false, c.requires))

pub returns-then-good : goal.returns-then-good
returns-then-good c = let a = c.args in let g = c.guess_at-g in
    line_plain a.table.lows.now a.table.highs.now a.text.now g.result.op a.at g.result.length a.table.rows g.result.some g.result.known g.result.long (omega (arith, c.if-text-at-lt48.false, c.requires)) c.stands.result c.accepts.result c.stands.ensures _ c.fields.ensures c.accepts.ensures c.if-good.true

use native.Mathlib.Omega.{arith}
use Rattle.listing.proofs.LineRows.{length_line, line_stands}
use Rattle.listing.proofs.lines.plain_line.Goals as goal

pub overflow_add-end : goal.overflow_add-end
overflow_add-end c = let g = c.guess_at-g in omega (arith, g.result.long, length_line g.result.op, c.if-text-at-lt48.false, c.requires)

pub fields-insn-requires : goal.fields-insn-requires
fields-insn-requires c = let g = c.guess_at-g in (omega (arith, g.result.long), omega (arith, g.result.long, length_line g.result.op, c.if-text-at-lt48.false, c.requires))

pub returns-then-stands : goal.returns-then-stands
returns-then-stands c = let a = c.args in let g = c.guess_at-g in
    line_stands a.table.lows.now a.table.highs.now a.text.now g.result.op a.at g.result.length a.table.rows g.result.some g.result.known g.result.long (omega (arith, c.if-text-at-lt48.false, c.requires)) (c.stands.ensures c.if-stands.true) _ c.fields-insn.ensures

use Rattle.std.proofs.Common.{arith}
use Rattle.listing.proofs.FormatTable.{line_lines}
use Rattle.listing.proofs.Readers.{filling_there, filling_more, filling_end}
use Rattle.listing.proofs.reader.fill_lines.Goals as goal

pub next_line-requires : goal.next_line-requires
next_line-requires c = let v = c.loop-i.invariant in (rw v.1 v.0.within, omega (arith, v.2, v.0.up_to, c.requires.1))

pub unwrap-numbers-requires : goal.unwrap-numbers-requires
unwrap-numbers-requires c = let v = c.loop-i.invariant in filling_there _ _ _ _ _ _ _ v.0 _ c.loop-i-test.true _ _ (rw v.1 at c.next_line.ensures.found)

pub loop-i-preserved : goal.loop-i-preserved
loop-i-preserved c = let v = c.loop-i.invariant in let e = c.next_line.ensures in let there = rw (c.unwrap-numbers.ensures, v.1) at e.found in (
  filling_more _ _ _ _ _ _ _ v.0 _ c.loop-i-test.true _ _ _ there _ _ c.put.ensures c.put.auto.out,
  rw e.held v.1,
  omega (arith, there.onward, line_lines, v.2),
)

pub returns : goal.returns
returns c = let v = c.loop-i.invariant in filling_end _ _ _ _ _ _ _ v.0 c.loop-i-test.false

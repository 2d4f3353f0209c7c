use Rattle.std.proofs.Common.{refl, arith}
use Rattle.runner.specs.Checks.{found_by}
use Rattle.listing.proofs.FormatTable.{line_lines}
use Rattle.listing.proofs.Readers.{checking_more, checking_stop, checking_end}
use Rattle.listing.proofs.reader.check_lines.Goals as goal

pub next_line-requires : goal.next_line-requires
next_line-requires c = let v = c.loop-i.invariant in (rw v.1 v.0.within, omega (arith, v.2, v.0.up_to, c.requires.1, c.requires.2))

pub returns-in-Err : goal.returns-in-Err
returns-in-Err c = let v = c.loop-i.invariant in checking_stop _ _ _ _ _ _ v.0 _ c.loop-i-test.true _ v.2 _ (rw v.1 at c.in-Err.ensures.found)

pub loop-i-preserved : goal.loop-i-preserved
loop-i-preserved c = let v = c.loop-i.invariant in let a = c.args in let e = c.in-Ok.ensures in let there = rw v.1 at e.found in (
  checking_more a.text.now a.from a.count c.loop-i.reader.at (found_by c.loop-i.found) c.loop-i.i v.0 c.loop-i.reader.line c.loop-i-test.true c.next_line.new.self.at c.next_line.new.self.line c.in-Ok.numbers there (found_by c.first_refused-found.result) c.first_refused-found.ensures,
  rw e.held v.1,
  omega (arith, there.onward, line_lines, v.2),
)

pub returns : goal.returns
returns c = checking_end _ _ _ _ _ _ c.loop-i.invariant.0 c.loop-i.found refl c.loop-i-test.false

use Rattle.runner.proofs.Counts.{tied_rows, tied_none}
use Rattle.std.proofs.Common.{sym, le-ltb, lt-ltb}
use Rattle.runner.proofs.ties.count_ties.Goals as goal

pub returns-then-i-lt12 : goal.returns-then-i-lt12
returns-then-i-lt12 c = tied_rows c.args.i _ c.args.image.now _ _ _ _ c.if-ties_count.true (sym (lt-ltb _ _ c.if-i-lt12.true)) c.requires.c c.requires.d c.count_columns.ensures

pub returns-else-i-lt12 : goal.returns-else-i-lt12
returns-else-i-lt12 c = tied_rows c.args.i _ c.args.image.now _ _ _ _ c.if-ties_count.true (sym (le-ltb _ _ c.if-i-lt12.false)) c.requires.c c.requires.d c.count_columns-else-i-lt12.ensures

pub returns-else-ties_count : goal.returns-else-ties_count
returns-else-ties_count c = tied_none c.args.i c.args.image.now _ c.requires.ties.eight c.if-ties_count.false

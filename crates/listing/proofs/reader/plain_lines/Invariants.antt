use Rattle.runner.specs.Checks.{found}
use Rattle.listing.specs.PrivateReader.{Checking}
use Rattle.listing.proofs.reader.plain_lines.Given as goal

abbrev pub invariant-loop-i : goal.invariant-loop-i
invariant-loop-i l = Checking l.text l.from l.count l.at (found 0 0) l.i

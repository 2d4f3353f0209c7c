use Rattle.std.proofs.Common.{◌≡◌, ◌+◌}
use Rattle.runner.specs.Checks.{found_by}
use Rattle.listing.specs.PrivateReader.{Checking}
use Rattle.listing.proofs.reader.check_lines.Given as goal

abbrev pub invariant-loop-i : goal.invariant-loop-i
invariant-loop-i l = Checking l.text l.from l.count l.reader.at (found_by l.found) l.i × (l.reader.text.now ≡ l.text) × (l.reader.line ≡ l.first + l.i)

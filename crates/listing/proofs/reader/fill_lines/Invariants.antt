use Rattle.std.proofs.Common.{◌≡◌}
use Rattle.listing.specs.PrivateReader.{Filling}
use Rattle.listing.proofs.reader.fill_lines.Given as goal

abbrev pub invariant-loop-i : goal.invariant-loop-i
invariant-loop-i l = Filling l.text l.from l.count l.fn.list l.list l.reader.at l.i × (l.reader.text.now ≡ l.text) × (l.reader.line ≡ l.i)

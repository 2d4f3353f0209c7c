use Rattle.listing.specs.PrivateReader.{Filling}
use Rattle.listing.proofs.reader.fill_plain.Given as goal

abbrev pub invariant-loop-i : goal.invariant-loop-i
invariant-loop-i l = Filling l.text l.from l.count l.initial.list l.list l.at l.i

use Rattle.listing.proofs.Walks.{Scanning}
use Rattle.listing.proofs.forms.scan.Given as goal

abbrev pub invariant-loop-x : goal.invariant-loop-x
invariant-loop-x l = Scanning l.form l.text l.from l.first l.numbers l.x-index l.at l.line l.n

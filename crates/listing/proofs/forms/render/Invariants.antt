use Rattle.listing.proofs.Walks.{Rendering}
use Rattle.listing.proofs.forms.render.Given as goal

abbrev pub invariant-loop-x : goal.invariant-loop-x
invariant-loop-x l = Rendering l.form l.values l.from l.place l.initial.out l.out l.x-index l.n l.at

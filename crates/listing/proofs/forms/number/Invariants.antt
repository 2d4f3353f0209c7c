use Rattle.std.proofs.Common.{◌≡◌, true}
use Rattle.listing.specs.Forms.{numeric, number}
use Rattle.listing.proofs.forms.number.Given as goal

abbrev pub invariant-loop-c : goal.invariant-loop-c
invariant-loop-c l = (numeric l.base l.c-index l.text ≡ true) × (l.value ≡ number l.base l.c-index l.text)

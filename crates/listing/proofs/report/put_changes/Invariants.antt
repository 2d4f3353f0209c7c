use Rattle.listing.proofs.Reports.{Changing}
use Rattle.listing.proofs.report.put_changes.Given as goal

abbrev pub invariant-loop-p : goal.invariant-loop-p
invariant-loop-p l = Changing l.before l.after l.place l.initial.page l.page l.at l.p

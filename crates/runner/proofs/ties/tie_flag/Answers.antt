use Rattle.runner.proofs.Counts.{tie_made}
use Rattle.runner.proofs.ties.tie_flag.Goals as goal

pub returns : goal.returns
returns c = λ e g. let a = c.args in tie_made a.go _ a.config a.c a.d a.free e c.ranges.c.fits c.ranges.d.fits (rw c.may_act.ensures at c.full.ensures) g

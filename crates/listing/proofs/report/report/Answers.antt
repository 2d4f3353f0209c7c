use lib.ListN.{length}
use mathlib.Core.Path.{◌≡◌}
use native.Mathlib.Omega.{arith}
use Rattle.listing.proofs.Reports.{reports_short, reports_whole}
use Rattle.listing.proofs.Rooms.{grown_whole}
use Rattle.listing.specs.Report.{report}
use Rattle.listing.proofs.report.report.Goals as goal

pub returns-then-text-n : goal.returns-then-text-n
returns-then-text-n c = let a = c.args in
    rw c.from.ensures (reports_short (report a.answer a.steps a.place a.cursor a.before.now a.after.now) a.text.now (omega (arith, c.put_report-n.ensures.up_to)))

pub put-requires : goal.put-requires
put-requires c = let g = c.put_report-n.ensures in rw g.front (omega (arith, g.up_to))

pub returns : goal.returns
unfolding report
returns c = let a = c.args in let g = c.put_report-n.ensures in
    let p = report a.answer a.steps a.place a.cursor a.before.now a.after.now in
    let k : c.put_report-n.result ≡ length p.bytes = omega (arith, g.up_to) in
    reports_whole p a.text.now _ _ k (omega arith) (grown_whole _ _ _ _ (rw g.front at c.put.ensures))

use Rattle.listing.proofs.Reports.{report_done, report_refused}
use Rattle.listing.proofs.report.put_report.Goals as goal

pub returns-then-answer-eq0 : goal.returns-then-answer-eq0
returns-then-answer-eq0 c = report_done _ _ _ _ _ _ _ _ _ c.put_outcome-at.ensures _ _ c.if-answer-eq0.true c.put_changes.ensures

pub returns : goal.returns
returns c = report_refused _ _ _ _ _ _ _ _ _ c.put_outcome-at.ensures c.if-answer-eq0.false

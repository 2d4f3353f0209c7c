use native.Mathlib.Omega.{arith}
use Rattle.listing.proofs.Reports.{changing_start, changing_more, changing_end}
use Rattle.listing.proofs.report.put_changes.Goals as goal

pub loop-p-init : goal.loop-p-init
loop-p-init c = changing_start _ _ _ _

pub put_change-at-requires : goal.put_change-at-requires
put_change-at-requires c = (omega (arith, c.loop-p.invariant.room, c.loop-p.invariant.same), c.loop-p-test.true)

pub loop-p-preserved : goal.loop-p-preserved
loop-p-preserved c = changing_more _ _ _ _ _ _ _ c.loop-p.p _ c.loop-p-test.true c.loop-p.invariant c.put_change-at.ensures c.put_change-at.auto.page

pub shape_of-page : goal.shape_of-page
shape_of-page c = c.loop-p.invariant.same

pub returns : goal.returns
returns c = changing_end _ _ _ _ _ _ c.loop-p.p c.loop-p-test.false c.loop-p.invariant

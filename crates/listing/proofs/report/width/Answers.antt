use native.Mathlib.Omega.{arith}
use Rattle.listing.proofs.Reports.{width_is}
use Rattle.listing.proofs.report.width.Goals as goal

pub returns : goal.returns
returns c = let e = c.ilog10.ensures in (width_is c.ilog10.result c.max.result c.args.n c.max.ensures e.power_le e.next_power_gt e.bound, omega (arith, e.bound))

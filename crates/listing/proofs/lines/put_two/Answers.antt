use lib.ListN.{length-set}
use native.Mathlib.Omega.{arith}
use Rattle.listing.proofs.LineWrites.{two_stores}
use Rattle.listing.proofs.lines.put_two.Goals as goal

pub bounds-out-at-2 : goal.bounds-out-at-2
bounds-out-at-2 c = rw length-set (omega (arith, c.requires))

pub returns : goal.returns
returns c = two_stores _ _ _ c.requires

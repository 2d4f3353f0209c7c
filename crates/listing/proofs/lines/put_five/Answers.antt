use lib.ListN.{length-set}
use native.Mathlib.Omega.{arith}
use Rattle.listing.proofs.LineWrites.{five_stores}
use Rattle.listing.proofs.lines.put_five.Goals as goal

pub bounds-out-at-2 : goal.bounds-out-at-2
bounds-out-at-2 c = rw length-set (omega (arith, c.requires))

pub bounds-out-at-3 : goal.bounds-out-at-3
bounds-out-at-3 c = rw (length-set, length-set) (omega (arith, c.requires))

pub bounds-out-at-4 : goal.bounds-out-at-4
bounds-out-at-4 c = rw (length-set, length-set, length-set) (omega (arith, c.requires))

pub bounds-out-at-5 : goal.bounds-out-at-5
bounds-out-at-5 c = rw (length-set, length-set, length-set, length-set) (omega (arith, c.requires))

pub returns : goal.returns
returns c = five_stores _ _ _ c.requires

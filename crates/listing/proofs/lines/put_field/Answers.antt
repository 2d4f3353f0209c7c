use native.Mathlib.Omega.{arith}
use Rattle.listing.proofs.Rooms.{grown_more}
use Rattle.listing.proofs.lines.put_field.Goals as goal

pub put_two-requires : goal.put_two-requires
put_two-requires g c = omega (arith, c.put-a.ensures.up_to, c.put-a.auto.out, c.requires)

pub returns : goal.returns
returns g c = grown_more _ _ _ _ _ c.put-a.ensures _ _ _ c.put_two.ensures

use Rattle.std.proofs.Common.{refl}
use Rattle.listing.proofs.Rooms.{grown_put}
use Rattle.listing.proofs.forms.put.Goals as goal

pub returns : goal.returns
returns g c = grown_put _ _ _ _ _ c.copy_from_slice.ensures.after refl c.requires

use mathlib.Core.Path.{refl}
use Rattle.listing.proofs.formats.Format.limit.Goals as goal

pub returns-in-Two : goal.returns-in-Two
returns-in-Two c = rw c.in-Two.is refl

pub returns-in-Old : goal.returns-in-Old
returns-in-Old c = rw c.in-Old.is refl

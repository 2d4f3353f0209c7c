use Rattle.std.proofs.Common.{arith}
use Rattle.listing.proofs.Items.{hex_fits}
use Rattle.listing.proofs.forms.item.Goals as goal

pub number-requires-in-16-to-24 : goal.number-requires-in-16-to-24
number-requires-in-16-to-24 c = (omega arith, omega arith, hex_fits _ (omega arith))

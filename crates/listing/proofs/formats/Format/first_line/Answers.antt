use mathlib.Core.Path.{refl}
use Rattle.listing.specs.Forms.{lines_in, ends, bytes, spell, literal}
use Rattle.listing.specs.Listing.{first_line, head, header_with}
use Rattle.lane.specs.Words.{pick}
use Rattle.listing.proofs.formats.Format.first_line.Goals as goal

pub returns-in-Two : goal.returns-in-Two
unfolding first_line lines_in ends head header_with bytes spell literal pick
returns-in-Two c = rw c.in-Two.is refl

pub returns-in-Old : goal.returns-in-Old
unfolding first_line lines_in ends head header_with bytes spell literal pick
returns-in-Old c = rw c.in-Old.is refl

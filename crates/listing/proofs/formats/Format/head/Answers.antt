use Rattle.listing.specs.Forms.{bytes, spell}
use Rattle.listing.proofs.FormatTable.{head_2_form, old_head_form}
use Rattle.listing.proofs.formats.Format.head.Goals as goal

pub returns-in-Two-clause-form : goal.returns-in-Two-clause-form
unfolding bytes spell
returns-in-Two-clause-form c = rw c.in-Two.is head_2_form

pub returns-in-Old-clause-form : goal.returns-in-Old-clause-form
unfolding bytes spell
returns-in-Old-clause-form c = rw c.in-Old.is old_head_form

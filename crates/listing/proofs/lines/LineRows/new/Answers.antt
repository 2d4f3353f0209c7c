use Rattle.listing.specs.Forms.{bytes, spell}
use Rattle.listing.proofs.LineRows.{line_rows}
use Rattle.listing.proofs.lines.LineRows.new.Goals as goal

pub invariant_of-result : goal.invariant_of-result
unfolding bytes spell
invariant_of-result c = record { rows = line_rows }

use native.Mathlib.Omega.{arith}
use Rattle.listing.specs.Forms.{bytes, spell}
use Rattle.listing.proofs.FormatTable.{line_form, line_numbers}
use Rattle.listing.proofs.hold.Reader.next_line.Goals as goal

pub next-requires : goal.next-requires
unfolding bytes spell
next-requires c = (c.requires.0, c.requires.1, rw line_form (omega (arith, line_numbers)), omega arith)

pub returns-clause-found : goal.returns-clause-found
unfolding bytes spell
returns-clause-found c = rw line_form at c.next.ensures.found

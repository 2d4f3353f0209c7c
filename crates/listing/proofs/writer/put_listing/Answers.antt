use native.Mathlib.Omega.{arith}
use Rattle.listing.specs.Forms.{spell, bytes}
use Rattle.listing.proofs.FormatTable.{head_2_form}
use Rattle.listing.proofs.Writers.{head_room, head_length, listing_length, listing_put}
use Rattle.listing.proofs.writer.put_listing.Goals as goal

pub render-at-requires : goal.render-at-requires
unfolding bytes spell
render-at-requires c = (omega arith, rw head_2_form (head_room _ _ _ _ c.requires.2))

pub put_lines-requires : goal.put_lines-requires
unfolding bytes spell
put_lines-requires c = let a = c.args in (c.requires.0, c.requires.1, omega (arith, c.requires.2, listing_length a.s a.list.now, c.render-at.auto.out, (rw head_2_form at c.render-at.ensures.grown).up_to, head_length c.header_of.result))

pub returns : goal.returns
unfolding bytes spell
returns c = let a = c.args in
    listing_put a.s a.list.now _ _ _ _ _ (rw (head_2_form, c.header_of.ensures) at c.render-at.ensures.grown) c.put_lines.ensures

use lib.ListN.{get_or}
use native.Mathlib.Omega.{arith}
use Rattle.listing.specs.Forms.{bytes, spell}
use Rattle.listing.specs.PrivateLines.{fields_of}
use Rattle.listing.proofs.Rooms.{grown_more}
use Rattle.listing.proofs.LineWrites.{field_end}
use mathlib.Core.Path.{refl}
use Rattle.listing.proofs.lines.put_fields.Goals as goal

pub put_field-d-requires : goal.put_field-d-requires
unfolding bytes spell
put_field-d-requires c = let a = c.args in omega (arith, field_end _ _ _ _ (bytes " vb=") 4 (get_or a.insn.now 2 0) refl c.put_field-c.ensures, c.put_field-c.auto.out, c.requires)

pub put_field-e-requires : goal.put_field-e-requires
unfolding bytes spell
put_field-e-requires c = let a = c.args in omega (arith, field_end _ _ _ _ (bytes " vb=") 4 (get_or a.insn.now 2 0) refl c.put_field-c.ensures, c.put_field-c.auto.out, field_end _ _ _ _ (bytes " vc=") 4 (get_or a.insn.now 3 0) refl c.put_field-d.ensures, c.put_field-d.auto.out, c.requires)

pub put_field-f-requires : goal.put_field-f-requires
unfolding bytes spell
put_field-f-requires c = let a = c.args in omega (arith, field_end _ _ _ _ (bytes " vb=") 4 (get_or a.insn.now 2 0) refl c.put_field-c.ensures, c.put_field-c.auto.out, field_end _ _ _ _ (bytes " vc=") 4 (get_or a.insn.now 3 0) refl c.put_field-d.ensures, c.put_field-d.auto.out, field_end _ _ _ _ (bytes " vd=") 4 (get_or a.insn.now 4 0) refl c.put_field-e.ensures, c.put_field-e.auto.out, c.requires)

pub put-requires : goal.put-requires
unfolding bytes spell
put-requires c = let a = c.args in omega (arith, field_end _ _ _ _ (bytes " vb=") 4 (get_or a.insn.now 2 0) refl c.put_field-c.ensures, c.put_field-c.auto.out, field_end _ _ _ _ (bytes " vc=") 4 (get_or a.insn.now 3 0) refl c.put_field-d.ensures, c.put_field-d.auto.out, field_end _ _ _ _ (bytes " vd=") 4 (get_or a.insn.now 4 0) refl c.put_field-e.ensures, c.put_field-e.auto.out, field_end _ _ _ _ (bytes " mod=") 5 (get_or a.insn.now 5 0) refl c.put_field-f.ensures, c.put_field-f.auto.out, c.requires)

pub returns : goal.returns
unfolding bytes spell fields_of
returns c = grown_more _ _ _ _ _ c.put_field-c.ensures _ _ _ (grown_more _ _ _ _ _ c.put_field-d.ensures _ _ _ (grown_more _ _ _ _ _ c.put_field-e.ensures _ _ _ (grown_more _ _ _ _ _ c.put_field-f.ensures _ _ _ c.put.ensures)))

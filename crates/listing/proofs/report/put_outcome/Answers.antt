use native.Mathlib.Omega.{arith}
use Rattle.listing.proofs.Digits.{length_digits}
use Rattle.listing.proofs.Reports.{answer_widest, outcome_widest, outcome_grows}
use Rattle.listing.proofs.Walks.{render_room}
use Rattle.listing.specs.Forms.{spell, bytes}
use Rattle.listing.proofs.report.put_outcome.Goals as goal

pub render-at-requires : goal.render-at-requires
unfolding bytes spell
render-at-requires c = (omega arith, render_room _ _ _ _ _ answer_widest (omega (arith, c.requires)))

pub put_number-end-requires : goal.put_number-end-requires
unfolding bytes spell
put_number-end-requires c = (omega (arith, c.requires, c.width.ensures.1, c.render-at.auto.out, c.render-at.ensures.within, answer_widest), omega arith, omega arith)

pub render-requires : goal.render-requires
unfolding bytes spell
render-requires c = (omega arith, render_room _ _ _ _ _ outcome_widest (omega (arith, c.requires, c.width.ensures.1, c.render-at.auto.out, c.put_number-end.auto.out, c.put_number-end.ensures.up_to, length_digits 10 c.width.result c.args.answer, c.render-at.ensures.within, answer_widest)))

pub returns : goal.returns
unfolding bytes spell
returns c = let a = c.args in
    outcome_grows a.answer a.steps a.place a.cursor c.width.result c.render-at.result c.put_number-end.result c.render.result a.page.now c.render-at.new.out c.put_number-end.new.out c.render.new.out
    c.width.ensures.0 c.width.ensures.1 c.render-at.ensures c.put_number-end.ensures c.render.ensures

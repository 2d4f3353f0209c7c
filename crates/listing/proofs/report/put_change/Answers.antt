use mathlib.Core.Path.{sym, ◌∙◌}
use native.Mathlib.Omega.{arith}
use Rattle.listing.proofs.Reports.{change_form_lem, change_widest, change_none, change_some}
use Rattle.listing.proofs.Walks.{render_room}
use Rattle.listing.specs.Forms.{spell, bytes}
use Rattle.listing.proofs.report.put_change.Goals as goal

pub returns-then-word_at-word : goal.returns-then-word_at-word
returns-then-word_at-word c = change_none c.args.before.now c.args.after.now c.args.p c.args.at c.args.page.now (sym c.word_at.ensures ∙ c.if-word_at-word.true ∙ c.word_at-word.ensures)

pub render-requires : goal.render-requires
unfolding bytes spell
render-requires c = (omega arith, render_room _ _ _ _ 29 (rw change_form_lem change_widest) c.requires.0)

pub returns : goal.returns
unfolding bytes spell
returns c = let s = c.render.ensures in
    change_some c.args.before.now c.args.after.now c.args.p c.args.at c.render.result c.args.page.now c.render.new.out
    (λ e. c.if-word_at-word.false (c.word_at.ensures ∙ e ∙ sym c.word_at-word.ensures))
    (rw (c.register_of.ensures, c.word_at-word.ensures) at s)

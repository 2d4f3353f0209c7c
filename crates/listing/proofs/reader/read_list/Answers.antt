use lib.ListN.{length, drop}
use mathlib.Core.Path.{refl, sym, ◌∙◌}
use native.Mathlib.Omega.{arith}
use Rattle.lane.proofs.Answers.{numbered}
use Rattle.runner.specs.Checks.{found}
use Rattle.listing.specs.Forms.{scan}
use Rattle.listing.specs.PrivatePlaces.{numbers_of}
use Rattle.listing.specs.Listing.{lines}
use Rattle.listing.proofs.Readers.{form_long, reads_refused, reads_filled, read_list_unset, read_list_refused, read_list_short, read_list_filled}
use Rattle.listing.proofs.reader.read_list.Goals as goal

pub returns-then-not-settings_good : goal.returns-then-not-settings_good
returns-then-not-settings_good c = reads_refused _ _ _ _ _ _ (read_list_unset _ _ _ (sym c.settings_good.ensures ∙ c.if-not-settings_good.true)) c.refused.ensures

pub returns-in-Err : goal.returns-in-Err
returns-in-Err c = let a = c.args in let p = c.requires in let ns = numbers_of (scan (lines a.count) (drop a.at a.text.now)) in
    reads_refused _ _ _ _ _ _ (read_list_refused (length a.list.now) a.s ns a.count _ (rw c.in-Err.is at p.3) (form_long _ _ p.2) p.1 (sym c.settings_good.ensures ∙ c.if-not-settings_good.false) (numbered c.in-Err.first.why)) c.refused-in-Err.ensures

pub returns-then-list-n : goal.returns-then-list-n
returns-then-list-n c = let a = c.args in let p = c.requires in let ns = numbers_of (scan (lines a.count) (drop a.at a.text.now)) in
    reads_refused _ _ _ _ _ _ (read_list_short (length a.list.now) a.s ns a.count (found 0 0) (rw c.in_default.is at p.3) (form_long _ _ p.2) p.1 (sym c.settings_good.ensures ∙ c.if-not-settings_good.false) refl (omega (arith, c.if-list-n.true))) c.refused-then-list-n.ensures

pub returns : goal.returns
returns c = let a = c.args in let p = c.requires in let ns = numbers_of (scan (lines a.count) (drop a.at a.text.now)) in
    reads_filled (length a.list.now) a.s ns a.list.now _ _ (sym (form_long _ _ p.2)) (read_list_filled (length a.list.now) a.s ns a.count (found 0 0) (rw c.in_default.is at p.3) (form_long _ _ p.2) p.1 (sym c.settings_good.ensures ∙ c.if-not-settings_good.false) refl (omega (arith, c.if-list-n.false))) c.fill_lines.ensures

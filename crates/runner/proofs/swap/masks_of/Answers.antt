use Rattle.lane.proofs.Masks.{mask_is}
use Rattle.runner.proofs.SwapRows.{rows_by_lem}
use Rattle.std.proofs.Common.{true, false, eqb, sym, refl, ◌∙◌, le-ltb, lt-ltb, ne_eqb}
use Rattle.runner.proofs.swap.masks_of.Goals as goal

pub returns-else-i-eq0 : goal.returns-else-i-eq0
returns-else-i-eq0 c = let a = c.args in (rows_by_lem a.image.now a.c.now a.d.now _ false _ true _ _ _ (sym (ne_eqb a.i.md 0 c.if-i-eq0.false)) (sym (lt-ltb a.i.vd 12 c.if-i-lt12.true)) (c.mask_in.ensures ∙ mask_is a.tables.now.masks a.i.md a.tables.now.swap_masks) c.swap_masks-else-i-eq0.ensures.0, c.swap_masks-else-i-eq0.ensures.1)

pub returns-else-i-lt12 : goal.returns-else-i-lt12
returns-else-i-lt12 c = let a = c.args in (rows_by_lem a.image.now a.c.now a.d.now _ (eqb a.i.md 0) _ false _ _ _ refl (sym (le-ltb a.i.vd 12 c.if-i-lt12.false)) (c.mask_in-else-i-lt12.ensures ∙ mask_is a.tables.now.masks a.i.md a.tables.now.swap_masks) c.swap_masks-else-i-lt12.ensures.0, c.swap_masks-else-i-lt12.ensures.1)

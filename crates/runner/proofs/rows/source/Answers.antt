use Rattle.lane.proofs.Cases.{pick_true, pick_false}
use Rattle.runner.proofs.Operands.{from_image, from_fixed}
use Rattle.std.proofs.Common.{◌∙◌, arith, rules}
use Rattle.runner.proofs.rows.source.Goals as goal

pub copied-requires : goal.copied-requires
copied-requires c = let e = c.keep.ensures ∙ pick_true _ _ _ c.if-stored.true in omega (arith, c.slot_of.ensures.0, c.told-image)

pub returns-then-stored : goal.returns-then-stored
returns-then-stored c = from_image _ _ _ _ _ _ _ c.register_of-q.ensures.1 c.is_stored-stored.ensures c.if-stored.true c.slot_of.ensures.1 c.keep.ensures c.copied.ensures

pub copied-requires-2 : goal.copied-requires-2
copied-requires-2 c = let e = c.keep.ensures ∙ pick_false _ _ _ c.if-stored.false in search rules

pub returns : goal.returns
returns c = from_fixed _ _ _ _ _ _ _ _ c.register_of-q.ensures.0 c.args.tables.now.fixed_rows c.register_of-q.ensures.1 c.is_stored-stored.ensures c.if-stored.false c.keep.ensures c.copied-2.ensures

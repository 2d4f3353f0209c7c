use Rattle.lane.proofs.Cases.{pick_true, pick_false}
use Rattle.lane.proofs.Ranks.{by_keys}
use Rattle.std.proofs.Common.{sym, ◌∙◌, le-ltb, lt-ltb, eq-eqb, ne_eqb}
use Rattle.lane.proofs.swap.compared.Goals as goal

pub returns-then-a-b : goal.returns-then-a-b
returns-then-a-b c = sym (pick_true _ _ _ (lt-ltb _ _ c.if-a-b.true)) ∙ by_keys c.args.c c.args.d _ _ c.ranges.c.fits c.ranges.d.fits c.key-a.ensures c.key-b.ensures

pub returns-then-a-b-2 : goal.returns-then-a-b-2
returns-then-a-b-2 c = sym (pick_false _ _ _ (le-ltb _ _ c.if-a-b.false) ∙ pick_true _ _ _ (eq-eqb _ _ c.if-a-b-2.true)) ∙ by_keys c.args.c c.args.d _ _ c.ranges.c.fits c.ranges.d.fits c.key-a.ensures c.key-b.ensures

pub returns-else-a-b-2 : goal.returns-else-a-b-2
returns-else-a-b-2 c = sym (pick_false _ _ _ (le-ltb _ _ c.if-a-b.false) ∙ pick_false _ _ _ (ne_eqb _ _ c.if-a-b-2.false)) ∙ by_keys c.args.c c.args.d _ _ c.ranges.c.fits c.ranges.d.fits c.key-a.ensures c.key-b.ensures

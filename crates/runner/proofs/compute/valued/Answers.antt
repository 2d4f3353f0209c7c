use Rattle.lane.proofs.Cases.{has_one}
use Rattle.runner.proofs.ComputeRows.{valued_one, valued_two}
use Rattle.runner.proofs.Filled.{operand}
use Rattle.runner.proofs.Lanes.{storing_same, storing_none}
use Rattle.runner.proofs.Operands.{no_valued}
use Rattle.runner.specs.Image.{lane_in}
use Rattle.std.proofs.Common.{sym, ◌∙◌, eq-eqb, ne_eqb}
use Rattle.runner.proofs.compute.valued.Goals as goal

pub returns-then-two : goal.returns-then-two
returns-then-two c = (rw c.with_mod.ensures at c.word_rows.ensures) ∙ storing_same _ _ _ (λ L l. valued_two c.args.op c.args.i L (lane_in c.args.image.now L) _ _ _ c.requires.op c.if-two.true c.if-i-lt8.true c.keep.ensures (operand _ _ c.source-b.ensures L l) (operand _ _ c.source-c.ensures L l))

pub returns-then-i-eq1 : goal.returns-then-i-eq1
returns-then-i-eq1 c = (rw c.with_mod-then-i-eq1.ensures at c.word_rows-then-i-eq1.ensures) ∙ storing_same _ _ _ (λ L l. valued_one c.args.op c.args.i 1 L (lane_in c.args.image.now L) _ _ c.requires.op c.if-two.false (sym (has_one c.args.i.md ∙ eq-eqb _ 1 c.if-i-eq1.true)) c.if-i-lt8.true (operand _ _ c.source-c.ensures L l))

pub returns-else-i-eq1 : goal.returns-else-i-eq1
returns-else-i-eq1 c = (rw c.with_mod-else-i-eq1.ensures at c.word_rows-else-i-eq1.ensures) ∙ storing_same _ _ _ (λ L l. valued_one c.args.op c.args.i 0 L (lane_in c.args.image.now L) _ _ c.requires.op c.if-two.false (sym (has_one c.args.i.md ∙ ne_eqb _ 1 c.if-i-eq1.false)) c.if-i-lt8.true (operand _ _ c.source-c.ensures L l))

pub returns-else-i-lt8 : goal.returns-else-i-lt8
returns-else-i-lt8 c = sym (storing_none _ _ c.told-image (λ L l. no_valued c.args.op c.args.i L (lane_in c.args.image.now L) c.if-i-lt8.false))

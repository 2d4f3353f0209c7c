use Rattle.runner.proofs.ComputeRows.{lz_flagged, untouched, words_enabled}
use Rattle.runner.proofs.Filled.{operand}
use Rattle.runner.proofs.Lanes.{storing_same, storing_none}
use Rattle.runner.proofs.Operands.{no_lz}
use Rattle.runner.specs.Image.{lane_in}
use Rattle.std.proofs.Common.{sym, ◌∙◌}
use Rattle.runner.proofs.compute.lz.Goals as goal

pub returns-then-touches : goal.returns-then-touches
returns-then-touches c = (c.flagged_rows.ensures.0 ∙ storing_same _ _ _ (λ L l. lz_flagged c.args.i L (lane_in c.args.image.now L) _ _ (operand _ _ c.source-c.ensures L l) (operand _ _ c.lz_counts-counts.ensures L l)), c.flagged_rows.ensures.1)

pub returns-else-touches : goal.returns-else-touches
returns-else-touches c = (untouched 12 _ _ _ _ _ _ (sym c.touches.ensures ∙ c.if-touches.false) c.word_rows.ensures ∙ storing_same _ _ _ (λ L l. lz_flagged c.args.i L (lane_in c.args.image.now L) _ _ (operand _ _ c.source-c.ensures L l) (operand _ _ c.lz_counts-counts.ensures L l)), words_enabled 12 _ _ _ _ _ _ c.requires c.word_rows.ensures)

pub returns-else-i-lt8 : goal.returns-else-i-lt8
returns-else-i-lt8 c = (sym (storing_none _ _ c.told-image (λ L l. no_lz c.args.i L (lane_in c.args.image.now L) c.if-i-lt8.false)), c.requires)

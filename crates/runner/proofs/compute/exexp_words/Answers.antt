use Rattle.runner.proofs.ComputeRows.{exexp_rows, untouched, words_enabled}
use Rattle.runner.proofs.Lanes.{storing_none}
use Rattle.runner.proofs.Operands.{no_exexp}
use Rattle.runner.specs.Image.{lane_in}
use Rattle.std.proofs.Common.{sym}
use Rattle.runner.proofs.compute.exexp_words.Goals as goal

pub returns-then-i-lt8 : goal.returns-then-i-lt8
returns-then-i-lt8 c = (exexp_rows _ _ _ _ c.source-c.ensures (untouched 13 _ _ _ _ _ _ c.requires.md c.word_rows.ensures), words_enabled 13 _ _ _ _ _ _ c.requires.enabled c.word_rows.ensures)

pub returns-else-i-lt8 : goal.returns-else-i-lt8
returns-else-i-lt8 c = (sym (storing_none _ _ c.told-image (λ L l. no_exexp c.args.i L (lane_in c.args.image.now L) c.if-i-lt8.false)), c.requires.enabled)

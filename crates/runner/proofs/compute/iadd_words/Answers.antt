use Rattle.runner.proofs.ComputeRows.{iadd_rows, untouched, words_enabled}
use Rattle.runner.proofs.Lanes.{storing_none}
use Rattle.runner.proofs.Operands.{no_iadd}
use Rattle.runner.specs.Image.{lane_in}
use Rattle.std.proofs.Common.{sym}
use Rattle.runner.proofs.compute.iadd_words.Goals as goal

pub returns-then-i-lt8 : goal.returns-then-i-lt8
returns-then-i-lt8 c = (iadd_rows _ _ _ _ c.source-c.ensures c.if-i-lt8.true (untouched 6 _ _ _ _ _ _ c.requires.md c.word_rows.ensures), words_enabled 6 _ _ _ _ _ _ c.requires.enabled c.word_rows.ensures)

pub returns-else-i-lt8 : goal.returns-else-i-lt8
returns-else-i-lt8 c = (sym (storing_none _ _ c.told-image (λ L l. no_iadd c.args.i L (lane_in c.args.image.now L) c.if-i-lt8.false)), c.requires.enabled)

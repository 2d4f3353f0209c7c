use Rattle.runner.proofs.Made.{word_in}
use Rattle.runner.specs.PrivateCompute.{word_with}
use Rattle.std.proofs.Common.{refl}
use Rattle.runner.proofs.compute.word_put.Goals as goal

pub returns : goal.returns
unfolding word_with
returns c = word_in _ _ _ _ _ _ _ c.requires.vd refl (rw (c.word_of-word.ensures, c.word_at.ensures) at (c.put.ensures _ c.requires.mask))

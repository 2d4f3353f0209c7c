use Rattle.runner.proofs.Made.{word_and_flag_in}
use Rattle.runner.specs.PrivateCompute.{flagged_with}
use Rattle.std.proofs.Common.{refl}
use Rattle.runner.proofs.compute.flagged_put.Goals as goal

pub returns : goal.returns
unfolding flagged_with
returns c = (word_and_flag_in _ _ _ _ _ _ _ _ _ c.requires.vd refl (rw (c.word_of-word.ensures, c.word_at.ensures) at (c.put.ensures _ c.requires.mask)) (rw (c.flag_after-flag.ensures, c.truth_of.ensures, c.word_at-old.ensures, c.word_of-word.ensures, c.word_at.ensures) at (c.put-2.ensures _ c.requires.mask)), rw (c.enabled.ensures, c.word_at-2.ensures, c.word_at-3.ensures) at c.full.ensures)

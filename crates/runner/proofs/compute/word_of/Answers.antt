use Rattle.lane.specs.Words.{pick}
use Rattle.runner.specs.PrivateCompute.{word_of}
use Rattle.std.proofs.Common.{ne_eqb, arith}
use Rattle.runner.proofs.compute.word_of.Goals as goal

pub returns-in-6 : goal.returns-in-6
unfolding word_of pick
returns-in-6 c = simp (c.in-6.is, c.iadd_word.ensures)

pub returns-in-12 : goal.returns-in-12
unfolding word_of pick
returns-in-12 c = simp (c.in-12.is, c.lz_from.ensures)

pub returns-in-13 : goal.returns-in-13
unfolding word_of pick
returns-in-13 c = simp (c.in-13.is, c.exexp_word.ensures)

pub returns-in_default : goal.returns-in_default
unfolding word_of pick
returns-in_default c = simp (ne_eqb c.args.op 6 (omega arith), ne_eqb c.args.op 12 (omega arith), ne_eqb c.args.op 13 (omega arith), c.value_word.ensures)

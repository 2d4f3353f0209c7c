use Rattle.std.proofs.Common.{refl, arith}
use Rattle.lane.proofs.Cases.{if_eq, if_ne, if_odd, if_even}
use Rattle.lane.specs.Compute.{extended, iadd_word}
use Rattle.lane.proofs.compute.iadd_word.Goals as goal

pub returns-then-m-eq1 : goal.returns-then-m-eq1
unfolding iadd_word extended
returns-then-m-eq1 c = let e = c.extended.ensures 11 (omega arith) refl (omega arith) in if_odd _ _ _ _ c.if-m-eq1.true (cc)

pub returns-then-m-eq1-2 : goal.returns-then-m-eq1-2
unfolding iadd_word
returns-then-m-eq1-2 c = if_even _ _ _ _ c.if-m-eq1.false (if_eq _ _ _ _ _ c.if-m-eq1-2.true (cc))

pub returns-else-m-eq1-2 : goal.returns-else-m-eq1-2
unfolding iadd_word
returns-else-m-eq1-2 c = if_even _ _ _ _ c.if-m-eq1.false (if_ne _ _ _ _ _ c.if-m-eq1-2.false (cc))

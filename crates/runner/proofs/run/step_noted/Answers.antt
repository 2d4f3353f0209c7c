use Rattle.std.proofs.Common.{arith}
use Rattle.lane.proofs.Counted.{loadi_count, iadd_count, exexp_count, valued_count}
use Rattle.lane.specs.Rule.{lanewise, stores_of}
use Rattle.lane.specs.Words.{pick}
use Rattle.runner.proofs.Quiet.{quiet_loadi, quiet_valued}
use Rattle.runner.proofs.Steps.{kept_arm, noted_arm, noted_rest}
use Rattle.runner.specs.Image.{lane_in}
use Rattle.runner.proofs.run.step_noted.Goals as goal

pub returns-in-2 : goal.returns-in-2
unfolding stores_of lanewise pick
returns-in-2 c = let a = c.args in noted_arm a.i _ _ _ _ c.loadi.ensures c.requires.enabled (λ L. quiet_loadi a.i (lane_in a.image.now L)) (λ L. loadi_count a.i (lane_in a.image.now L)) (λ s x dst L. simp c.in-2.is)

pub returns-in-6 : goal.returns-in-6
unfolding stores_of lanewise pick
returns-in-6 c = let a = c.args in kept_arm a.i _ _ _ _ c.iadd_words.ensures.0 c.requires.enabled c.iadd_words.ensures.1 (λ L. iadd_count a.i L (lane_in a.image.now L)) (λ s x dst L. simp c.in-6.is)

pub returns-in-7 : goal.returns-in-7
unfolding stores_of lanewise pick
returns-in-7 c = let a = c.args in noted_arm a.i _ _ _ _ c.valued.ensures c.requires.enabled (λ L. quiet_valued 7 a.i L (lane_in a.image.now L)) (λ L. valued_count 7 a.i L (lane_in a.image.now L)) (λ s x dst L. simp c.in-7.is)

pub returns-in-8 : goal.returns-in-8
unfolding stores_of lanewise pick
returns-in-8 c = let a = c.args in noted_arm a.i _ _ _ _ c.valued-in-8.ensures c.requires.enabled (λ L. quiet_valued 8 a.i L (lane_in a.image.now L)) (λ L. valued_count 8 a.i L (lane_in a.image.now L)) (λ s x dst L. simp c.in-8.is)

pub returns-in-9 : goal.returns-in-9
unfolding stores_of lanewise pick
returns-in-9 c = let a = c.args in noted_arm a.i _ _ _ _ c.valued-in-9.ensures c.requires.enabled (λ L. quiet_valued 9 a.i L (lane_in a.image.now L)) (λ L. valued_count 9 a.i L (lane_in a.image.now L)) (λ s x dst L. simp c.in-9.is)

pub returns-in-10 : goal.returns-in-10
unfolding stores_of lanewise pick
returns-in-10 c = let a = c.args in noted_arm a.i _ _ _ _ c.valued-in-10.ensures c.requires.enabled (λ L. quiet_valued 10 a.i L (lane_in a.image.now L)) (λ L. valued_count 10 a.i L (lane_in a.image.now L)) (λ s x dst L. simp c.in-10.is)

pub returns-in-11 : goal.returns-in-11
unfolding stores_of lanewise pick
returns-in-11 c = let a = c.args in noted_arm a.i _ _ _ _ c.valued-in-11.ensures c.requires.enabled (λ L. quiet_valued 11 a.i L (lane_in a.image.now L)) (λ L. valued_count 11 a.i L (lane_in a.image.now L)) (λ s x dst L. simp c.in-11.is)

pub returns-in-13 : goal.returns-in-13
unfolding stores_of lanewise pick
returns-in-13 c = let a = c.args in kept_arm a.i _ _ _ _ c.exexp_words.ensures.0 c.requires.enabled c.exexp_words.ensures.1 (λ L. exexp_count a.i L (lane_in a.image.now L)) (λ s x dst L. simp c.in-13.is)

pub returns-in_default : goal.returns-in_default
returns-in_default c = let a = c.args in noted_arm a.i _ _ _ _ c.valued-in_default.ensures c.requires.enabled (λ L. quiet_valued 14 a.i L (lane_in a.image.now L)) (λ L. valued_count 14 a.i L (lane_in a.image.now L)) (λ s x dst L. noted_rest a.i.op a.i.md s x a.i L _ _ _ (lane_in a.image.now L) c.requires.noted (omega arith) (omega arith) (omega arith) (omega arith) (omega arith) (omega arith) (omega arith) (omega arith))

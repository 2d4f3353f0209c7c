use Rattle.std.proofs.Common.{◌%◌, ltb, refl, arith}
use Rattle.lane.proofs.Counted.{flag_small}
use Rattle.lane.specs.Rule.{lanewise, stores_of}
use Rattle.lane.specs.Words.{pick}
use Rattle.runner.proofs.Counts.{no_ties, swap_ties, other_op}
use Rattle.runner.proofs.Enabled.{quiet_enabled}
use Rattle.runner.proofs.Quiet.{quiet_lut, quiet_config, quiet_swap}
use Rattle.runner.proofs.Steps.{counted_arm, noted_stored, no_arm}
use Rattle.runner.specs.Image.{lane_in}
use Rattle.runner.proofs.run.step_stored.Goals as goal

pub overflow_add-result : goal.overflow_add-result
overflow_add-result c = omega (arith, c.requires.stores.free 0 (omega arith), c.once.ensures, flag_small (ltb c.args.i.vd 8))

pub returns-in_default : goal.returns-in_default
returns-in_default c = let a = c.args in noted_stored a.s a.i _ _ _ _ a.owed _ _ c.requires.ties.eight c.requires.stores.eight (omega arith) c.once.ensures c.step_noted.ensures

pub returns-in-3 : goal.returns-in-3
unfolding stores_of lanewise pick
returns-in-3 c = let a = c.args in let key = c.in-3.is in let made = c.lut.ensures in counted_arm a.i a.image.now _ _ _ made.0 a.s _ _ a.owed _ _ (no_ties a.i _ _ c.requires.ties.eight (other_op _ _ key refl)) (quiet_enabled _ a.image.now _ _ (λ L l. quiet_lut a.i (lane_in a.image.now L)) c.requires.enabled made.0) (λ L. quiet_lut a.i (lane_in a.image.now L)) made.1 (λ x dst L. simp key)

pub returns-in-4 : goal.returns-in-4
unfolding stores_of lanewise pick
returns-in-4 c = let a = c.args in let key = c.in-4.is in let made = c.swap.ensures in counted_arm a.i a.image.now _ _ _ made.0 a.s _ _ a.owed _ _ (swap_ties a.i _ _ _ key made.1.1.0) made.1.0 (λ L. quiet_swap a.i L (lane_in a.image.now L)) made.1.1.1 (λ x dst L. simp key)

pub returns-in-5 : goal.returns-in-5
unfolding stores_of lanewise pick
returns-in-5 c = let a = c.args in let key = c.in-5.is in let made = c.config.ensures in counted_arm a.i a.image.now _ _ _ made.0 a.s _ _ a.owed _ _ (no_ties a.i _ _ c.requires.ties.eight (other_op _ _ key refl)) (quiet_enabled _ a.image.now _ _ (λ L l. quiet_config a.s.edition a.i L (lane_in a.image.now (L % 8)) (lane_in a.image.now L)) c.requires.enabled made.0) (λ L. quiet_config a.s.edition a.i L (lane_in a.image.now (L % 8)) (lane_in a.image.now L)) made.1 (λ x dst L. simp key)

pub returns-in-15 : goal.returns-in-15
unfolding stores_of lanewise pick
returns-in-15 c = let a = c.args in let key = c.in-15.is in no_arm a.s a.i _ _ _ a.owed _ c.told-image c.requires.ties.eight c.requires.stores.eight (other_op _ _ key refl) c.requires.enabled (λ x dst L. simp key)

use Rattle.std.proofs.Common.{ℕ, ◌%◌, sym, arith}
use Rattle.runner.proofs.ConfigRows.{column_at, config_lane, config_lanes, config_counted, no_config, no_counts_lem, reached_at}
use Rattle.runner.proofs.Lanes.{storing_none}
use Rattle.runner.proofs.Tallied.{are_marks, row_marks}
use Rattle.runner.specs.Image.{lane_in}
use Rattle.runner.specs.PrivateConfig.{reached}
use Rattle.runner.proofs.config.config.Goals as goal

pub returns-in_default : goal.returns-in_default
returns-in_default c = let a = c.args in let image = a.image.now in (sym (storing_none image _ c.told-image (λ L l. no_config a.edition a.i L (lane_in image (L % 8)) (lane_in image L) (omega arith) (omega arith))), no_counts_lem a.edition a.i image _ c.requires.eight (omega arith) (omega arith))

pub count_reached-requires-clause-masks : goal.count_reached-requires-clause-masks
count_reached-requires-clause-masks c = let a = c.args in let masks = c.reached_masks-masks.result in are_marks masks 0 (λ (L : ℕ). reached a.i (lane_in a.image.now (L % 8)) (L % 8)) (row_marks masks (λ (L : ℕ). reached a.i (lane_in a.image.now (L % 8)) (L % 8)) (reached_at a.i a.image.now masks c.reached_masks-masks.ensures))

pub returns : goal.returns
returns c = let a = c.args in let image = a.image.now in let masks = c.reached_masks-masks.result in (config_lanes image _ _ _ c.config_rows.ensures (λ L l. config_lane a.edition a.i L (lane_in image (L % 8)) (lane_in image L) _ _ c.in-Some.ensures.1.1.0 c.in-Some.ensures.1.1.1 c.in-Some.ensures.0 (column_at _ _ c.config_values-values.ensures L l)), config_counted a.edition a.i image a.stores.now _ (c.count_reached.ensures (λ (L : ℕ). reached a.i (lane_in image (L % 8)) (L % 8)) (row_marks masks (λ (L : ℕ). reached a.i (lane_in image (L % 8)) (L % 8)) (reached_at a.i image masks c.reached_masks-masks.ensures))))

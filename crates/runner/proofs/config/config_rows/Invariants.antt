use Rattle.std.proofs.Common.{ℕ, ◌%◌, [], ◌∷◌, get_or}
use Rattle.lane.specs.Words.{pick, Lane}
use Rattle.runner.proofs.Lanes.{Turned}
use Rattle.runner.specs.PrivateConfig.{reached, written}
use Rattle.runner.specs.Image.{lane_in}
use Rattle.runner.proofs.config.config_rows.Given as goal

abbrev pub invariant-loop-n : goal.invariant-loop-n
invariant-loop-n l = Turned (λ (L : ℕ) (own : Lane). pick (reached l.i (lane_in l.initial.image (L % 8)) (L % 8)) ((l.slot, written l.i.vd l.i.md (get_or l.values L 0) (own l.slot)) ∷ []) []) l.initial.image l.n l.image

use Rattle.std.proofs.Common.{ℕ, get_or}
use Rattle.lane.specs.Words.{bit, enabled}
use Rattle.runner.proofs.SwapRows.{Marked, NoneSeen}
use Rattle.runner.specs.Image.{lane_in}
use Rattle.runner.specs.PrivateSwap.{swaps_by}
use Rattle.runner.proofs.swap.swap_masks.Given as goal

abbrev pub invariant-loop-n : goal.invariant-loop-n
invariant-loop-n l = Marked (λ (L : ℕ). enabled (lane_in l.image L)) (λ (L : ℕ). swaps_by l.always l.free l.mask L (get_or l.c L 0) (get_or l.d L 0) (lane_in l.image L)) (λ (L : ℕ). bit (lane_in l.image L 12) 2) l.n l.t × NoneSeen l.seen l.n l.t

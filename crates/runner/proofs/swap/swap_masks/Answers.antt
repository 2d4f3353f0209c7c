use Rattle.std.proofs.Common.{ℕ, get_or, arith}
use Rattle.lane.specs.Words.{bit, enabled}
use Rattle.runner.proofs.Filled.{spread_end}
use Rattle.runner.proofs.SwapRows.{marked_start, marked_first, masks_more, none_start, none_more, none_end}
use Rattle.runner.specs.Image.{lane_in}
use Rattle.runner.specs.PrivateSwap.{swaps_by, mask_rows}
use Rattle.runner.proofs.swap.swap_masks.Goals as goal

pub loop-n-init : goal.loop-n-init
loop-n-init c = (marked_start _ _ _ _ c.requires.size c.requires.mask_is, none_start _)

pub loop-n-preserved : goal.loop-n-preserved
loop-n-preserved c = let a = c.args in (masks_more (λ (L : ℕ). enabled (lane_in a.image.now L)) (λ (L : ℕ). swaps_by a.always a.free a.mask L (get_or a.c.now L 0) (get_or a.d.now L 0) (lane_in a.image.now L)) (λ (L : ℕ). bit (lane_in a.image.now L 12) 2) _ _ _ _ c.loop-n-test.true c.loop-n.invariant.0 (rw (c.in_mask.ensures, c.word_at-config.ensures) at (c.swap_mask-on.ensures _ (marked_first _ _ _ _ _ c.loop-n.invariant.0 _ c.loop-n-test.true))) (rw c.word_at-config.ensures at c.full.ensures), none_more _ _ _ _ _ _ c.loop-n-test.true c.loop-n.invariant.0.spread.long c.loop-n.invariant.1)

pub returns : goal.returns
unfolding mask_rows
returns c = (spread_end _ 32 128 _ _ (λ p l. omega arith) c.loop-n.invariant.0.spread, none_end _ _ _ c.loop-n-test.false c.loop-n.invariant.1)

use Rattle.std.proofs.Common.{ℕ, get_or, arith}
use Rattle.lane.specs.Words.{flag_of}
use Rattle.runner.proofs.Counts.{counting_more, counting_end, column_sum, room_kept, flag_le}
use Rattle.runner.specs.Image.{lane_in}
use Rattle.runner.specs.PrivateSwap.{tied_by}
use Rattle.runner.proofs.ties.count_columns.Goals as goal

pub overflow_add-ties : goal.overflow_add-ties
overflow_add-ties c = omega (arith, room_kept _ _ _ _ 4 (omega (arith, c.loop-j-test.true, c.loop-j.invariant.long)) c.requires.ties c.loop-j.invariant, flag_le _ _ c.tie_at.ensures)

pub overflow_add-ties-in-loop-j : goal.overflow_add-ties-in-loop-j
overflow_add-ties-in-loop-j c = omega (arith, room_kept _ _ _ _ 4 (omega (arith, c.loop-j-test.true, c.loop-j.invariant.long)) c.requires.ties c.loop-j.invariant, flag_le _ _ c.tie_at.ensures, flag_le _ _ c.tie_at-in-loop-j.ensures)

pub overflow_add-ties-in-loop-j-2 : goal.overflow_add-ties-in-loop-j-2
overflow_add-ties-in-loop-j-2 c = omega (arith, room_kept _ _ _ _ 4 (omega (arith, c.loop-j-test.true, c.loop-j.invariant.long)) c.requires.ties c.loop-j.invariant, flag_le _ _ c.tie_at.ensures, flag_le _ _ c.tie_at-in-loop-j.ensures, flag_le _ _ c.tie_at-in-loop-j-2.ensures)

pub overflow_add-ties-in-loop-j-3 : goal.overflow_add-ties-in-loop-j-3
overflow_add-ties-in-loop-j-3 c = omega (arith, room_kept _ _ _ _ 4 (omega (arith, c.loop-j-test.true, c.loop-j.invariant.long)) c.requires.ties c.loop-j.invariant, flag_le _ _ c.tie_at.ensures, flag_le _ _ c.tie_at-in-loop-j.ensures, flag_le _ _ c.tie_at-in-loop-j-2.ensures, flag_le _ _ c.tie_at-in-loop-j-3.ensures)

pub loop-j-preserved : goal.loop-j-preserved
loop-j-preserved c = counting_more _ _ _ _ _ (omega (arith, c.loop-j-test.true, c.loop-j.invariant.long)) c.loop-j.invariant (column_sum (λ (L : ℕ). flag_of (tied_by c.args.free (get_or c.args.c.now L 0) (get_or c.args.d.now L 0) (lane_in c.args.image.now L))) _ _ _ _ _ _ c.tie_at.ensures c.tie_at-in-loop-j.ensures c.tie_at-in-loop-j-2.ensures c.tie_at-in-loop-j-3.ensures)

pub returns : goal.returns
returns c = counting_end _ _ _ _ (omega (arith, c.loop-j-test.false, c.loop-j.invariant.long)) c.loop-j.invariant

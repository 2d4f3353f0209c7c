use Rattle.std.proofs.Common.{ℕ, get_or}
use Rattle.lane.specs.Words.{flag_of}
use Rattle.runner.proofs.Counts.{Counting}
use Rattle.runner.specs.Image.{lane_in}
use Rattle.runner.specs.PrivateSwap.{tied_by}
use Rattle.runner.proofs.ties.count_columns.Given as goal

abbrev pub invariant-loop-j : goal.invariant-loop-j
invariant-loop-j l = Counting (λ (L : ℕ). flag_of (tied_by l.free (get_or l.c L 0) (get_or l.d L 0) (lane_in l.image L))) l.initial.ties l.j l.ties

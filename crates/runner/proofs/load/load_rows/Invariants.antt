use Rattle.std.proofs.Common.{ℕ, ◌%◌, get_or}
use Rattle.lane.specs.Words.{Lane}
use Rattle.runner.proofs.Lanes.{Turned}
use Rattle.runner.specs.PrivateLoad.{loaded_only}
use Rattle.runner.proofs.load.load_rows.Given as goal

abbrev pub invariant-loop-n : goal.invariant-loop-n
invariant-loop-n l = Turned (λ (L : ℕ) (own : Lane). loaded_only l.vd l.m (get_or l.got L 0 % 65536) own) l.initial.image l.n l.image

use Prim.Native.Nat.{◌-◌, ◌≤◌}
use lib.ListN.{length}
use Rattle.replay.proofs.input.read_all.Given as goal

abbrev pub invariant-loop-length : goal.invariant-loop-length
invariant-loop-length g l = l.length ≤ length l.buf

abbrev pub decreases-loop-length : goal.decreases-loop-length
decreases-loop-length g l = length l.buf - l.length

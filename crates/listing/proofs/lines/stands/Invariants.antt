use Prim.Native.Nat.{◌≤◌}
use Rattle.listing.proofs.LineRows.{Standing}
use Rattle.listing.proofs.lines.stands.Given as goal

abbrev pub invariant-loop-j : goal.invariant-loop-j
invariant-loop-j l = (l.j ≤ 48) × Standing l.table.lows.now l.table.highs.now l.text l.at l.from l.good l.j

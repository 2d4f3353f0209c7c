use Rattle.std.proofs.Common.{◌*◌, ◌/◌, ◌≤◌}
use Rattle.runner.proofs.Dsts.{own_cell, Celled}
use Rattle.runner.specs.PrivateStore.{stored_by}
use Rattle.runner.proofs.store.store_rows.Given as goal

abbrev pub invariant-loop-n : goal.invariant-loop-n
invariant-loop-n l = (l.n ≤ 32) × Celled (own_cell (stored_by l.m l.words l.odds l.go l.initial.dst l.a)) (64 * (l.a / 4)) l.initial.dst (2 * l.n) l.dst

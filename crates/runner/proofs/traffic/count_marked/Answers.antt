use Rattle.std.proofs.Common.{ℕ, ◌+◌, arith}
use Rattle.runner.proofs.Counts.{counting_more, counting_end, room_kept}
use Rattle.runner.proofs.Tallied.{told, column_few, each_column}
use Rattle.runner.specs.PrivateRows.{marked}
use Rattle.runner.proofs.traffic.count_marked.Goals as goal

pub overflow_mul-stores : goal.overflow_mul-stores
overflow_mul-stores c = omega (arith, column_few c.args.each _ (λ (L : ℕ). marked c.args.t.now (c.args.at + L)) _ c.marked_in.ensures, room_kept _ _ _ _ _ (omega (arith, c.loop-j-test.true, c.loop-j.invariant.long)) c.requires.stores c.loop-j.invariant)

pub overflow_add-stores : goal.overflow_add-stores
overflow_add-stores c = omega (arith, column_few c.args.each _ (λ (L : ℕ). marked c.args.t.now (c.args.at + L)) _ c.marked_in.ensures, room_kept _ _ _ _ _ (omega (arith, c.loop-j-test.true, c.loop-j.invariant.long)) c.requires.stores c.loop-j.invariant)

pub loop-j-preserved : goal.loop-j-preserved
loop-j-preserved c = counting_more _ _ _ _ _ (omega (arith, c.loop-j-test.true, c.loop-j.invariant.long)) c.loop-j.invariant (each_column _ _ _ (λ (L : ℕ). marked c.args.t.now (c.args.at + L)) _ c.marked_in.ensures)

pub returns : goal.returns
returns c = λ e m. told c.args.t.now c.args.stores.now _ c.args.at c.args.each e m (counting_end _ _ _ _ (omega (arith, c.loop-j-test.false, c.loop-j.invariant.long)) c.loop-j.invariant)

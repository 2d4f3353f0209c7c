use Rattle.std.proofs.Common.{ℕ, ◌+◌, get_or, arith, rules}
use Rattle.runner.proofs.Counts.{counting_more, counting_end, column_sum, room_kept}
use Rattle.runner.proofs.Tallied.{weighed, first_mask}
use lib.Bits.{bit_and, and_le_r}
use Rattle.runner.proofs.traffic.count_enabled.Goals as goal

pub overflow_add-stores-in-loop-j-4 : goal.overflow_add-stores-in-loop-j-4
overflow_add-stores-in-loop-j-4 c = omega (arith, room_kept _ _ _ _ _ (omega (arith, c.loop-j-test.true, c.loop-j.invariant.long)) c.requires c.loop-j.invariant, and_le_r (get_or c.args.go.now c.loop-j.j 0) c.args.each, and_le_r (get_or c.args.go.now (8 + c.loop-j.j) 0) c.args.each, and_le_r (get_or c.args.go.now (16 + c.loop-j.j) 0) c.args.each)

pub overflow_add-stores-in-loop-j-6 : goal.overflow_add-stores-in-loop-j-6
overflow_add-stores-in-loop-j-6 c = omega (arith, room_kept _ _ _ _ _ (omega (arith, c.loop-j-test.true, c.loop-j.invariant.long)) c.requires c.loop-j.invariant, and_le_r (get_or c.args.go.now c.loop-j.j 0) c.args.each, and_le_r (get_or c.args.go.now (8 + c.loop-j.j) 0) c.args.each, and_le_r (get_or c.args.go.now (16 + c.loop-j.j) 0) c.args.each, and_le_r (get_or c.args.go.now (24 + c.loop-j.j) 0) c.args.each)

pub loop-j-preserved : goal.loop-j-preserved
loop-j-preserved c = let go = c.args.go.now in let each = c.args.each in let j = c.loop-j.j in counting_more _ _ _ _ _ (omega (arith, c.loop-j-test.true, c.loop-j.invariant.long)) c.loop-j.invariant (column_sum (λ (L : ℕ). bit_and (get_or go (0 + L) 0) each) j _ _ _ _ _ (first_mask go each j) (first_mask go each (8 + j)) (first_mask go each (16 + j)) (first_mask go each (24 + j)))

pub returns : goal.returns
returns c = λ e m. weighed c.args.go.now c.args.stores.now _ 0 c.args.each e (search rules) m (counting_end _ _ _ _ (omega (arith, c.loop-j-test.false, c.loop-j.invariant.long)) c.loop-j.invariant)

use Rattle.std.proofs.Common.{◌+◌, ◌*◌, ltb, arith}
use Rattle.lane.proofs.Counted.{flag_small}
use Rattle.runner.proofs.Counts.{room_less}
use Rattle.runner.proofs.traffic.settle.Goals as goal

pub overflow_add-owed : goal.overflow_add-owed
overflow_add-owed c = omega (arith, c.requires.free 0 (omega arith), c.once.ensures, flag_small (ltb c.args.vd 8))

pub count_enabled-requires : goal.count_enabled-requires
count_enabled-requires c = room_less (4 * (c.args.owed + c.once.result)) (4 * (c.args.owed + 1)) _ (omega (arith, c.once.ensures, flag_small (ltb c.args.vd 8))) c.requires

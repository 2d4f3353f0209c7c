use Rattle.runner.proofs.ConfigRows.{is_constant, not_constant}
use Rattle.runner.proofs.config.count_reached.Goals as goal

pub returns-then-vd : goal.returns-then-vd
returns-then-vd c = λ e m. is_constant c.args.vd c.args.stores.now _ e c.if-vd.true (c.count_marked.ensures e m)

pub returns-else-vd : goal.returns-else-vd
returns-else-vd c = λ e m. not_constant c.args.vd c.args.stores.now e c.if-vd.false c.requires.stores.eight

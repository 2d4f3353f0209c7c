use Rattle.runner.proofs.Views.{some_count, no_count}
use Rattle.runner.proofs.view.register_count.Goals as goal

pub returns-then-in_view : goal.returns-then-in_view
returns-then-in_view c = some_count c.args.size c.args.r c.in_view.result c.in_view.ensures c.if-in_view.true

pub returns-else-in_view : goal.returns-else-in_view
returns-else-in_view c = no_count c.args.size c.args.r c.in_view.result c.in_view.ensures c.if-in_view.false

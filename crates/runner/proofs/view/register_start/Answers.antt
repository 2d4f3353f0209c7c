use Rattle.runner.proofs.Views.{low_start, high_start, no_start}
use Rattle.runner.proofs.view.register_start.Goals as goal

pub returns-then-r-lt8 : goal.returns-then-r-lt8
returns-then-r-lt8 c = low_start c.args.size c.args.r c.in_view.result c.in_view.ensures c.if-in_view.true c.if-r-lt8.true

pub returns-else-r-lt8 : goal.returns-else-r-lt8
returns-else-r-lt8 c = high_start c.args.size c.args.r c.in_view.result c.in_view.ensures c.if-in_view.true c.if-r-lt8.false

pub returns-else-in_view : goal.returns-else-in_view
returns-else-in_view c = no_start c.args.size c.args.r c.in_view.result c.in_view.ensures c.if-in_view.false

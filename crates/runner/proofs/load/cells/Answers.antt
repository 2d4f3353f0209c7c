use Rattle.std.proofs.Common.{rules}
use Rattle.runner.proofs.LoadRows.{cell_made}
use Rattle.runner.proofs.load.cells.Goals as goal

pub returns : goal.returns
returns c = λ odd e. c.row.ensures _ (λ n v l p. search (rules, cell_made c.args.dst.now c.pairs-both.result c.args.odds.now c.args.at n v odd l c.pairs-both.ensures e))

use Rattle.std.proofs.Common.{rules}
use Rattle.runner.proofs.LoadRows.{full_and}
use Rattle.runner.specs.PrivateLoad.{open_in}
use Rattle.runner.proofs.load.open_row.Goals as goal

pub returns : goal.returns
unfolding open_in
returns c = c.row.ensures _ (λ n v l p. search (rules, full_and, c.requires.mask_is n l))

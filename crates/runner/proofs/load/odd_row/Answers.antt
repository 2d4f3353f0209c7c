use Rattle.std.proofs.Common.{ℕ, rules}
use Rattle.lane.specs.Words.{bit, lane_config}
use Rattle.lane.specs.Load.{is_odd}
use Rattle.runner.specs.Image.{lane_in}
use Rattle.runner.specs.PrivateLoad.{odd_in}
use Rattle.runner.specs.PrivateRows.{columns, full}
use Rattle.runner.proofs.LoadRows.{full_or}
use Rattle.runner.proofs.load.odd_row.Goals as goal

pub returns : goal.returns
unfolding odd_in columns
returns c = c.by_columns.ensures (λ (j : ℕ). full (is_odd c.args.a (bit (lane_in c.args.image.now j lane_config) 5))) (λ j v l p. search (rules, full_or))

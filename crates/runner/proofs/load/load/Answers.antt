use Rattle.lane.proofs.Counted.{none_count}
use Rattle.lane.specs.Words.{register_stores}
use Rattle.runner.proofs.Counts.{counted_none}
use Rattle.runner.proofs.Lanes.{storing_none}
use Rattle.runner.proofs.LoadRows.{no_load}
use Rattle.runner.specs.Image.{lane_in}
use Rattle.runner.specs.PrivateLoad.{loaded_at}
use Rattle.std.proofs.Common.{sym, ap, ◌∙◌}
use Rattle.lane.specs.Load as Rules
use Rattle.runner.proofs.load.load.Goals as goal

pub returns-then-i-lt8 : goal.returns-then-i-lt8
unfolding loaded_at Rules.load
returns-then-i-lt8 c = rw c.resolved.ensures at c.load_words.ensures

pub returns-else-i-lt8 : goal.returns-else-i-lt8
returns-else-i-lt8 c = let a = c.args in (sym (storing_none _ _ c.told-image (λ L l. no_load a.srcb a.a a.i L _ _ _ (lane_in a.image.now L) c.if-i-lt8.false)), counted_none _ _ c.requires.stores.eight (λ L l. ap register_stores (no_load a.srcb a.a a.i L _ _ _ (lane_in a.image.now L) c.if-i-lt8.false) ∙ none_count))

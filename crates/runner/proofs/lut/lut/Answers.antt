use Rattle.lane.proofs.Counted.{none_count}
use Rattle.lane.specs.Words.{register_stores}
use Rattle.runner.proofs.Counts.{counted_none}
use Rattle.runner.proofs.Lanes.{storing_none}
use Rattle.runner.proofs.LutRows.{no_lut}
use Rattle.runner.specs.Image.{lane_in}
use Rattle.std.proofs.Common.{sym, ap, ◌∙◌}
use Rattle.runner.proofs.lut.lut.Goals as goal

pub returns-else-named-i : goal.returns-else-named-i
returns-else-named-i c = let a = c.args in (sym (storing_none _ _ c.told-image (λ L l. no_lut a.i (lane_in a.image.now L) c.if-named-i.false)), counted_none _ _ c.requires.stores.eight (λ L l. ap register_stores (no_lut a.i (lane_in a.image.now L) c.if-named-i.false) ∙ none_count))

use Rattle.std.proofs.Common.{refl}
use Rattle.runner.proofs.Walks.{all_back}
use Rattle.runner.proofs.walk.bring_back.Goals as goal

pub returns : goal.returns
returns c = let a = c.args in all_back a.op a.entry.now a.dst.now _ _ _ c.copy_from_slice.ensures.after c.bring_cells.ensures refl

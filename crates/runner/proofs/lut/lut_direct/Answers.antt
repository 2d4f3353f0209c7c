use Rattle.std.proofs.Common.{ℕ, ◌∙◌}
use Rattle.lane.specs.Lut.{lut}
use Rattle.lane.specs.Words.{register_stores}
use Rattle.runner.proofs.Filled.{operand}
use Rattle.runner.proofs.LutRows.{storing_after, direct_lane, direct_count}
use Rattle.runner.proofs.Tallied.{are_marks, enabled_marks, times_one}
use Rattle.runner.specs.Image.{lane_in}
use Rattle.runner.specs.PrivateSteps.{enabled_in}
use Rattle.runner.proofs.lut.lut_direct.Goals as goal

pub count_marked-requires-clause-masks : goal.count_marked-requires-clause-masks
count_marked-requires-clause-masks c = let go = c.args.go.now in let image = c.args.image.now in are_marks go 0 (enabled_in image) (enabled_marks go image c.requires.enabled)

pub returns : goal.returns
returns c = let image = c.args.image.now in let i = c.args.i in (storing_after image _ _ _ c.answer_rows.ensures (λ L s l. direct_lane i (lane_in image L) s _ _ _ (operand _ _ c.slot_row-r3.ensures L l) (c.requires.results L l) _ c.requires.md c.requires.vd (c.requires.enabled.mask_is L l) (operand _ _ c.slot_row-old.ensures L l)), c.count_marked.ensures (enabled_in image) (enabled_marks c.args.go.now image c.requires.enabled) ∙ times_one c.args.stores.now (enabled_in image) (λ (L : ℕ). register_stores (lut i (lane_in image L))) (λ L l. direct_count i (lane_in image L) c.requires.md c.requires.vd))

use Rattle.std.proofs.Common.{ℕ, length, ap, arith}
use Rattle.runner.specs.Image.{view_pointer}
use Rattle.runner.proofs.Views.{part_within, part_small, part_view}
use Rattle.runner.proofs.view.register_lanes.Goals as goal

pub overflow_add-result : goal.overflow_add-result
overflow_add-result c = let a = c.args in record { fits = omega (arith, c.register_count-count.ensures, c.register_start-at.ensures, part_small (length a.image.now) a.r) }

pub offset_bounds-image-at : goal.offset_bounds-image-at
offset_bounds-image-at c = let a = c.args in record { fits = omega (arith, c.register_count-count.ensures, c.register_start-at.ensures, part_small (length a.image.now) a.r) }

pub slice_bounds-result-end : goal.slice_bounds-result-end
slice_bounds-result-end c = let a = c.args in omega (arith, c.register_count-count.ensures, c.register_start-at.ensures, part_within (length a.image.now) a.r)

pub returns : goal.returns
unfolding view_pointer
returns c = let a = c.args in (part_view a.image.now a.r _ _ c.register_start-at.ensures c.register_count-count.ensures, ap (λ (n : ℕ). (a.image.ref_ptr.0, n)) (omega (arith, c.register_start-at.ensures)))

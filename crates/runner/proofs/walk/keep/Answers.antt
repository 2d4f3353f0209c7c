use Rattle.std.proofs.Common.{sym, ◌∙◌, arith, length-take-le}
use Rattle.runner.proofs.Walks.{entry_kept}
use Rattle.runner.proofs.walk.keep.Goals as goal

pub slice_bounds-copy_from_slice-end-2 : goal.slice_bounds-copy_from_slice-end-2
slice_bounds-copy_from_slice-end-2 c = sym (length-take-le 768 c.args.entry.now (omega (arith, c.requires.entry)))

pub copy_from_slice-requires : goal.copy_from_slice-requires
copy_from_slice-requires c = length-take-le 768 c.args.entry.now (omega (arith, c.requires.entry)) ∙ sym c.told-image

pub returns : goal.returns
returns c =
    let a = c.args in
    entry_kept a.entry.now _ _ _ a.image.now a.dst.now a.i a.a a.cursor c.requires.entry c.told-image c.copy_from_slice.ensures.after c.copy_from_slice-2.ensures.after (c.copy_from_slice-3.ensures.after ∙ c.kept_cells-met.ensures)

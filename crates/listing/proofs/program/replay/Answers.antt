use mathlib.Core.Path.{sym}
use lib.ListN.{take}
use lib.Seq.{length-take-le}
use native.Mathlib.Omega.{arith}
use Rattle.listing.proofs.Programs.{output_fits, held_list, output_run, output_refused}
use Rattle.listing.proofs.program.replay.Goals as goal

pub slice_bounds-list-end : goal.slice_bounds-list-end
slice_bounds-list-end c = let f = output_fits c.args.text.now c.read_held-reading.result c.read_held-reading.ensures.told c.if-reading-eq0.true in omega (arith, f, c.read_held-reading.auto.list)

pub slice_bounds-run_reported-end : goal.slice_bounds-run_reported-end
slice_bounds-run_reported-end c = let f = output_fits c.args.text.now c.read_held-reading.result c.read_held-reading.ensures.told c.if-reading-eq0.true in sym (length-take-le c.read_held-reading.result.length c.read_held-reading.new.list (omega (arith, f, c.read_held-reading.auto.list)))

pub returns-then-reading-eq0 : goal.returns-then-reading-eq0
returns-then-reading-eq0 c = let r = c.read_held-reading in
    rw (output_run c.args.text.now r.result r.ensures.told (take r.result.length r.new.list) c.if-reading-eq0.true (held_list c.args.text.now r.result r.ensures.told c.if-reading-eq0.true _ _ r.ensures.put)) at c.run_reported.ensures

pub returns-else-reading-eq0 : goal.returns-else-reading-eq0
returns-else-reading-eq0 c = rw (output_refused c.args.text.now c.read_held-reading.result c.read_held-reading.ensures.told c.if-reading-eq0.false) at c.refusal_reported.ensures

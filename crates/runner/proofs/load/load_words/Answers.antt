use Rattle.std.proofs.Common.{ℕ, ◌%◌, get_or, ◌∙◌, arith}
use Rattle.runner.proofs.LoadRows.{open_kept, captured, load_counted, open_marks, room_caught}
use Rattle.runner.proofs.Tallied.{are_marks}
use Rattle.runner.specs.Image.{lane_in}
use Rattle.runner.specs.PrivateLoad.{odd_at, odd_in, is_open}
use Rattle.runner.proofs.load.load_words.Goals as goal

pub capture-requires-clause-opens : goal.capture-requires-clause-opens
capture-requires-clause-opens c = let a = c.args in c.open_row-opens.ensures ∙ open_kept a.image.now _ a.vd a.m (λ (L : ℕ). get_or c.cells-got.result L 0 % 65536) c.requires.vd c.load_by_mod.ensures

pub count_marked-requires-clause-masks : goal.count_marked-requires-clause-masks
count_marked-requires-clause-masks c = let a = c.args in are_marks c.open_row-opens.result 0 (λ (L : ℕ). is_open (lane_in a.image.now L)) (open_marks a.image.now _ c.open_row-opens.ensures)

pub count_marked-requires-clause-stores : goal.count_marked-requires-clause-stores
count_marked-requires-clause-stores c = let a = c.args in room_caught a.vd _ a.stores.now _ c.requires.stores c.capture.ensures.1

pub returns : goal.returns
unfolding odd_in
returns c = let a = c.args in let odds = c.odd_row-odds.ensures in let got = c.cells-got.ensures (odd_at a.image.now a.a) odds in (captured a.image.now _ a.dst.now _ _ a.a a.vd a.m c.requires.vd (λ k. omega (arith, c.fits-dst k)) odds got c.load_by_mod.ensures _ c.capture.ensures.0, load_counted a.image.now _ a.dst.now _ _ a.a a.vd a.m c.requires.vd (λ k. omega (arith, c.fits-dst k)) odds got c.load_by_mod.ensures a.stores.now _ _ c.capture.ensures.1 (c.count_marked.ensures (λ (L : ℕ). is_open (lane_in a.image.now L)) (open_marks a.image.now _ c.open_row-opens.ensures)))

use lib.ListN.{get_or}
use mathlib.Core.Path.{◌≡◌}
use Prim.Native.Nat.{◌+◌, ◌-◌, ◌*◌}
use native.Mathlib.Omega.{arith}
use Rattle.listing.proofs.LineRows.{length_line}
use Rattle.listing.proofs.LineWrites.{opening_put, opening_end, digits_end, line_put}
use Rattle.listing.proofs.lines.put_line.Goals as goal

pub slice_bounds-opening-end : goal.slice_bounds-opening-end
slice_bounds-opening-end c = let a = c.args in omega (arith, c.line_length.ensures, length_line (get_or a.insn.now 0 0), c.requires.1.0)

pub put_five-b-requires : goal.put_five-b-requires
put_five-b-requires c = let a = c.args in let p = c.requires in let op = get_or a.insn.now 0 0 in
    let f = opening_put a.table.lows.now op c.line_length.result a.table.rows.0 (omega arith) p.0 p.1.0 c.line_length.ensures _ _ _ _ c.put-a.ensures in
    omega (arith, opening_end a.table.lows.now op c.line_length.result a.table.rows.0 (omega arith) p.0 p.1.0 c.line_length.ensures _ _ _ _ f, c.put-a.auto.out, c.line_length.ensures, p.1.1)

pub put_fields-requires : goal.put_fields-requires
put_fields-requires c = let a = c.args in let p = c.requires in let op = get_or a.insn.now 0 0 in
    let f = opening_put a.table.lows.now op c.line_length.result a.table.rows.0 (omega arith) p.0 p.1.0 c.line_length.ensures _ _ _ _ c.put-a.ensures in
    omega (arith, opening_end a.table.lows.now op c.line_length.result a.table.rows.0 (omega arith) p.0 p.1.0 c.line_length.ensures _ _ _ _ f, c.put-a.auto.out, digits_end _ _ _ _ 5 _ c.put_five-b.ensures, c.put_five-b.auto.out, c.line_length.ensures, p.1.1)

pub returns : goal.returns
returns c = let a = c.args in let p = c.requires in let row = 48 * get_or a.insn.now 0 0 in let n = c.line_length.result in
    let k : row + (n - 31) - row ≡ n - 31 = omega arith in
    line_put a.table.lows.now a.insn.now 0 n a.table.rows.0 (omega arith) p.0 p.1.0 c.line_length.ensures _ _ _ _ _ _ _ _ (rw k at c.put-a.ensures) c.put_five-b.ensures c.put_fields.ensures

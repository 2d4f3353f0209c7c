use borrow.Author.Rules.{rules}
use lib.ListN.{length}
use mathlib.Core.Path.{◌≡◌, refl, sym, ◌∙◌}
use native.Mathlib.Omega.{arith}
use Rattle.listing.proofs.FormatTable.{row_sound}
use Rattle.listing.proofs.Readers.{read_long, read_head, read_headless}
use Rattle.listing.proofs.reader.read.Goals as goal

pub returns-then-text-gt-TEXT_LIMIT : goal.returns-then-text-gt-TEXT_LIMIT
returns-then-text-gt-TEXT_LIMIT c = let e = read_long (length c.args.list.now) c.args.text.now c.if-text-gt-TEXT_LIMIT.true in
    (rw e c.refused.ensures, rw e refl)

pub next-requires : goal.next-requires
next-requires c = (omega arith, omega arith, rw c.head.ensures.form (omega (arith, (row_sound c.of-format.result).nine)), c.head.ensures.short)

pub returns-in-Ok : goal.returns-in-Ok
returns-in-Ok c = let a = c.args in let r = c.read_rest.ensures in let p = c.placed-reader.ensures in
    let there = rw (c.head.ensures.form, p.0, p.1.0, p.1.1) at c.in-Ok.ensures.found in
    let nine : length c.in-Ok.head ≡ 9 = search rules in
    let e = read_head (length a.list.now) a.text.now _ c.if-text-gt-TEXT_LIMIT.false c.of-format.ensures _ _ _ there ((row_sound c.of-format.result).nine ∙ sym nine) in
    (rw e r.told, rw e r.put)

pub returns-in-Err : goal.returns-in-Err
returns-in-Err c = let a = c.args in let p = c.placed-reader.ensures in
    let there = rw (c.head.ensures.form, p.0, p.1.0, p.1.1) at c.in-Err.ensures.found in
    let e = read_headless (length a.list.now) a.text.now _ c.if-text-gt-TEXT_LIMIT.false c.of-format.ensures _ there in
    (rw e c.refused-in-Err.ensures, rw e refl)

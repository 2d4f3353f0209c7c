use mathlib.Core.Path.{sym, ap, ◌∙◌, ◌≡◌}
use Prim.Native.Nat.{◌+◌, ◌-◌}
use lib.ListN.{length, drop, length-drop}
use native.Mathlib.Omega.{arith}
use Rattle.listing.specs.Listing.{settings_of, first_line}
use Rattle.runner.specs.Checks.{scanned}
use Rattle.listing.specs.PrivateReader.{row}
use Rattle.listing.proofs.FormatTable.{row_sound}
use Rattle.listing.proofs.Readers.{reads_refused, read_many, read_faulty, read_extra, read_on, taken_whole}
use Rattle.listing.proofs.reader.read_rest.Goals as goal

pub returns-then-limit-count : goal.returns-then-limit-count
unfolding settings_of
returns-then-limit-count c = let a = c.args in
    reads_refused _ _ _ _ _ _ (read_many (row a.format) (length a.list.now) a.head.now (drop a.at a.text.now) (omega (arith, c.limit.ensures, c.if-limit-count.true))) c.refused.ensures

pub check_lines-requires : goal.check_lines-requires
check_lines-requires c = let d = row_sound c.args.format in
    (c.requires, omega (arith, c.first_line-first.ensures, d.early), omega (arith, c.limit.ensures, d.few, c.if-limit-count.false))

pub overflow_add-first : goal.overflow_add-first
overflow_add-first c = let d = row_sound c.args.format in omega (arith, c.first_line-first.ensures, d.early, c.limit.ensures, d.few, c.if-limit-count.false)

pub returns-then-rest-text : goal.returns-then-rest-text
returns-then-rest-text c = let a = c.args in let s = c.in-Ok.ensures in
    reads_refused _ _ _ _ _ _ (read_extra (row a.format) (length a.list.now) a.head.now (drop a.at a.text.now) (omega (arith, c.limit.ensures, c.if-limit-count.false)) s.ns (drop c.in-Ok.rest.at a.text.now) s.whole
    (rw (length-drop c.in-Ok.rest.at a.text.now) (omega (arith, c.if-rest-text.true)))) (rw c.first_line-first.ensures at c.refused-then-rest-text.ensures)

pub read_list-requires : goal.read_list-requires
read_list-requires c = let a = c.args in let s = c.in-Ok.ensures in let d = row_sound a.format in
    let w = taken_whole _ s.ns (drop c.in-Ok.rest.at a.text.now) s.whole in
    (c.requires, omega (arith, c.limit.ensures, d.few, c.if-limit-count.false), w.0, s.refused ∙ ap scanned (sym w.1))

pub returns-else-rest-text : goal.returns-else-rest-text
returns-else-rest-text c = let a = c.args in let s = c.in-Ok.ensures in
    let w = taken_whole _ s.ns (drop c.in-Ok.rest.at a.text.now) s.whole in
    let e = read_on (row a.format) (length a.list.now) a.head.now (drop a.at a.text.now) (omega (arith, c.limit.ensures, c.if-limit-count.false)) s.ns (drop c.in-Ok.rest.at a.text.now) s.whole
    (rw (length-drop c.in-Ok.rest.at a.text.now) (omega (arith, c.if-rest-text.false))) in
    rw (e, ← c.settings_of.ensures, ← w.1) c.read_list.ensures

pub returns-in-Err : goal.returns-in-Err
returns-in-Err c = let a = c.args in let s = c.in-Err.ensures in let line = c.in-Err.fault.line in let first = c.first_line-first in
    let k : first_line (row a.format) + (line - first.result) ≡ line = omega (arith, s.onward, first.ensures) in
    reads_refused _ _ _ _ _ _ (read_faulty (row a.format) (length a.list.now) a.head.now (drop a.at a.text.now) (omega (arith, c.limit.ensures, c.if-limit-count.false)) (line - first.result) s.scanned) (rw k c.refused-in-Err.ensures)

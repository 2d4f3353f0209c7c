use lib.ListN.{length}
use mathlib.Core.Path.{refl, sym, ap, ◌≡◌}
use native.Mathlib.Omega.{arith}
use Rattle.lane.proofs.Answers.{numbered}
use Rattle.runner.specs.Checks.{Found, found, list_answer}
use Rattle.listing.specs.Listing.{accepted_writing}
use Rattle.listing.proofs.Writers.{few_words, lines_few, list_named, listing_length, write_refused, write_short, write_done}
use Rattle.listing.proofs.writer.write.Goals as goal

pub returns-in-Err : goal.returns-in-Err
returns-in-Err c = let a = c.args in let e = write_refused (length a.text.now) a.s a.list.now _ c.in-Err.ensures (numbered c.in-Err.first.why) in
    (rw e c.refused.ensures, rw e refl)

pub lines_length-n-requires : goal.lines_length-n-requires
lines_length-n-requires c = let e : (list_answer c.args.s c.args.list.now).answer ≡ 0 = ap (λ (f : Found). f.answer) (sym c.in_default.ensures) in
    (few_words c.args.s c.args.list.now e, list_named c.args.s c.args.list.now e)

pub overflow_add-n : goal.overflow_add-n
overflow_add-n c = let a = c.args in omega (arith, c.lines_length-n.ensures, lines_few a.list.now, few_words a.s a.list.now (ap (λ (f : Found). f.answer) (sym c.in_default.ensures)))

pub returns-then-text-n : goal.returns-then-text-n
returns-then-text-n c = let a = c.args in
    let e = write_short (length a.text.now) a.s a.list.now (found 0 0) c.in_default.ensures refl (omega (arith, c.lines_length-n.ensures, listing_length a.s a.list.now, c.if-text-n.true)) in
    (rw e c.refused-then-text-n.ensures, rw e refl)

pub put_listing-requires : goal.put_listing-requires
put_listing-requires c = let a = c.args in let e : (list_answer a.s a.list.now).answer ≡ 0 = ap (λ (f : Found). f.answer) (sym c.in_default.ensures) in
    (few_words a.s a.list.now e, list_named a.s a.list.now e, omega (arith, c.lines_length-n.ensures, listing_length a.s a.list.now, c.if-text-n.false))

pub returns : goal.returns
unfolding accepted_writing
returns c = let a = c.args in
    let k = listing_length a.s a.list.now in
    let e = write_done (length a.text.now) a.s a.list.now (found 0 0) c.in_default.ensures refl (omega (arith, c.lines_length-n.ensures, k, c.if-text-n.false)) in
    (rw (e, k, ← c.lines_length-n.ensures) refl, rw e c.put_listing.ensures)

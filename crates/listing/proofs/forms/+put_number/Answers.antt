use Rattle.std.proofs.Common.{◌-◌, ◌/◌, arith}
use Rattle.listing.proofs.Digits.{length_digits}
use Rattle.listing.proofs.Rooms.{number_grows, no_digits}
use Rattle.listing.proofs.forms.+put_number.Goals as goal

pub returns-then-w-eq0 : goal.returns-then-w-eq0
returns-then-w-eq0 t c = let a = c.args in no_digits a.base a.w a.n a.at a.out.now c.if-w-eq0.true

pub bounds-out-last : goal.bounds-out-last
bounds-out-last t c = let a = c.args in omega (arith, c.put_number-last.ensures.up_to, length_digits a.base (a.w - 1) (a.n / a.base), c.requires.0, c.put_number-last.auto.out)

pub returns : goal.returns
returns t c = let a = c.args in number_grows a.base a.w a.n a.at c.put_number-last.result a.out.now c.put_number-last.new.out c.glyph.result c.if-w-eq0.false (omega (arith, c.put_number-last.ensures.up_to, length_digits a.base (a.w - 1) (a.n / a.base), c.requires.0, c.put_number-last.auto.out)) c.put_number-last.ensures c.glyph.ensures

use Rattle.std.proofs.Common.{arith, refl}
use Rattle.listing.proofs.Scans.{rest_is, ahead}
use Rattle.listing.proofs.Walks.{scanning_start, room_for, scanning_stop, scanning_some, scanning_none, scanning_end}
use Rattle.listing.proofs.forms.scan.Goals as goal
use Rattle.listing.proofs.forms.scan.Goals.{in-Some-number, in_default-number}

pub loop-x-init : goal.loop-x-init
loop-x-init c = scanning_start _ _ _ _ _ refl c.requires.0

pub returns-in_default : goal.returns-in_default
returns-in_default c = scanning_stop _ _ _ _ _ _ _ _ _ c.loop-x.invariant c.loop-x-test.true (rw (rest_is c.args.text.now c.loop-x.at) at c.in_default.ensures)

pub bounds-numbers-n : goal.bounds-numbers-n
bounds-numbers-n c = let s = c.loop-x.invariant in
    let e = ahead _ c.args.text.now _ c.loop-x.at c.in-Some.got s.within refl (rw (rest_is c.args.text.now c.loop-x.at) at c.in-Some.ensures) in
    omega (arith, room_for _ _ _ _ _ _ _ _ _ s c.loop-x-test.true _ e c.in-Some-number.value c.in-Some-number.is c.requires.2, s.nine)

pub loop-x-preserved : goal.loop-x-preserved
loop-x-preserved c = let s = c.loop-x.invariant in let l = c.loop-x-test.true in let g = c.in-Some in
    let e = ahead _ c.args.text.now _ c.loop-x.at g.got s.within refl (rw (rest_is c.args.text.now c.loop-x.at) at g.ensures) in
    elim c.match-got.branch [
      | in-Some-number w ↦ rw (w.numbers-is, w.n-is) (scanning_some _ _ _ _ _ _ _ _ _ s l _ e w.in-Some-number.value w.in-Some-number.is c.requires.2)
      | in_default-number w ↦ rw (w.numbers-is, w.n-is) (scanning_none _ _ _ _ _ _ _ _ _ s l _ e w.in_default-number.is)
    ]

pub returns : goal.returns
returns c = scanning_end _ _ _ _ _ _ _ _ _ c.loop-x.invariant c.loop-x-test.false

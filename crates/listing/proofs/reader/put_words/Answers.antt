use Rattle.std.proofs.Common.{◌≡◌, arith, refl}
use lib.ListN.{take, length-set}
use lib.Seq.{take-length}
use native.Mathlib.Nat.{add-zero}
use Rattle.listing.proofs.Rooms.{grown_none, list_grows}
use Rattle.listing.proofs.reader.put_words.Goals as goal

pub loop-j-init : goal.loop-j-init
loop-j-init c = (rw (add-zero c.args.at) (grown_none _ _), refl)

pub loop-j-preserved : goal.loop-j-preserved
loop-j-preserved c = let v = c.loop-j.invariant in
    (list_grows c.args.words.now c.args.at c.loop-j.j c.args.list.now c.loop-j.list (omega (arith, c.told-words)) (omega arith) v.0, simp length-set v.1)

pub returns : goal.returns
returns c = let e : c.loop-j.j ≡ 6 = omega arith in let w = c.args.words.now in
    let whole : take 6 w ≡ w = rw (← c.told-words) (take-length w) in
    rw (e, whole) at c.loop-j.invariant.0

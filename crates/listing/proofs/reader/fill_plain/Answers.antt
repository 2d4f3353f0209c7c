use mathlib.Core.Path.{refl}
use Rattle.listing.proofs.Readers.{filling_line}
use Rattle.listing.proofs.reader.fill_plain.Goals as goal

pub loop-i-preserved : goal.loop-i-preserved
loop-i-preserved c = let p = c.in-Some.ensures in
    filling_line _ _ _ _ _ _ _ c.loop-i.invariant _ _ p.scanned refl p.within c.loop-i-test.true c.put_words.result c.put_words.new.list (rw c.from.ensures at c.put_words.ensures) c.put_words.auto.list

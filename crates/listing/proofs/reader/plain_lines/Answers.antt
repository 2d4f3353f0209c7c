use Rattle.listing.proofs.Readers.{checking_start, checking_plain}
use Rattle.listing.proofs.reader.plain_lines.Goals as goal

pub loop-i-init : goal.loop-i-init
loop-i-init c = checking_start _ _ _ c.requires

pub loop-i-preserved : goal.loop-i-preserved
loop-i-preserved c = checking_plain _ _ _ _ _ _ c.loop-i.invariant c.loop-i-test.true c.in-Some.ensures

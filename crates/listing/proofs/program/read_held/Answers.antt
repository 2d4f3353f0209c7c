use Rattle.listing.proofs.Readers.{reads_refused, reads_held}
use Rattle.listing.proofs.Programs.{held_long, held_short}
use Rattle.listing.proofs.program.read_held.Goals as goal

pub returns-then-text-gt-HELD_BYTES : goal.returns-then-text-gt-HELD_BYTES
returns-then-text-gt-HELD_BYTES c = reads_refused _ _ _ _ _ _ (held_long c.args.text.now c.if-text-gt-HELD_BYTES.true) c.refused.ensures

pub returns : goal.returns
returns c = reads_held _ _ _ _ _ _ c.requires (held_short c.args.text.now c.if-text-gt-HELD_BYTES.false) c.read.ensures.0 c.read.ensures.1

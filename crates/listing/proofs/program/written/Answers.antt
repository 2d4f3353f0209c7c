use Rattle.listing.proofs.Programs.{writes_report}
use Rattle.listing.proofs.program.written.Goals as goal

pub returns : goal.returns
returns c = let a = c.args in let w = c.write-put.ensures in writes_report a.s a.list.now a.room.now _ c.write-put.result c.requires w.0 w.1

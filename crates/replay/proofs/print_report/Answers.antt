use lib.Seq.{length-take-le}
use mathlib.Core.Path.{sym}
use Rattle.listing.proofs.Reports.{reports_within}
use Rattle.replay.proofs.print_report.Goals as goal

pub slice_bounds-room-end : goal.slice_bounds-room-end
slice_bounds-room-end g c = reports_within _ _ c.replay-length.new.room _ c.replay-length.ensures c.replay-length.auto.room

pub slice_bounds-put-end : goal.slice_bounds-put-end
slice_bounds-put-end g c = sym (length-take-le _ c.replay-length.new.room (reports_within _ _ c.replay-length.new.room _ c.replay-length.ensures c.replay-length.auto.room))

use Rattle.runner.proofs.Lanes.{put_when}
use Rattle.runner.proofs.rows.put.Goals as goal

pub returns : goal.returns
returns c = λ t e. rw (c.masked.ensures t e, c.place-at.ensures) (put_when _ _ _ _ _ c.told-image c.requires.lane c.requires.slot)

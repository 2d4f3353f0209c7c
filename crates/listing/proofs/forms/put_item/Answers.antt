use Rattle.std.proofs.Common.{arith}
use Rattle.listing.proofs.Items.{item_dec, item_hex}
use Rattle.listing.proofs.Walks.{room_dec, room_hex}
use Rattle.listing.proofs.forms.put_item.Goals as goal

pub put_number-requires : goal.put_number-requires
put_number-requires c = (room_dec _ _ _ _ (item_dec c.args.x (omega arith)) c.requires, omega arith, omega arith)

pub put_number-requires-in-16-to-24 : goal.put_number-requires-in-16-to-24
put_number-requires-in-16-to-24 c = (room_hex _ _ _ _ (item_hex c.args.x (omega arith) (omega arith)) c.requires, omega arith, omega arith)

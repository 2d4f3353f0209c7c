use lib.ListN.{get_or}
use native.Mathlib.Omega.{arith}
use Rattle.listing.proofs.Trips.{takes_one}
use Rattle.listing.proofs.Walks.{rendering_start, room_there, rendering_more, rendering_end}
use Rattle.listing.specs.PrivatePlaces.{item_of}
use Rattle.listing.proofs.forms.render.Goals as goal

pub loop-x-init : goal.loop-x-init
loop-x-init c = rendering_start _ _ _ _ _

pub put_item-at-requires : goal.put_item-at-requires
put_item-at-requires c = room_there _ _ _ _ _ _ _ _ _ c.loop-x.invariant c.loop-x-test.true _ c.word_at.ensures c.requires.1

pub overflow_add-n : goal.overflow_add-n
overflow_add-n c = omega (arith, c.loop-x.invariant.few, c.requires.0, takes_one (item_of (get_or c.args.form.now c.loop-x.x-index 0)), c.count_of-n.ensures)

pub loop-x-preserved : goal.loop-x-preserved
loop-x-preserved c = rendering_more _ _ _ _ _ _ _ _ _ c.loop-x.invariant c.loop-x-test.true c.word_at.result c.put_item-at.result c.count_of-n.result c.put_item-at.new.out c.word_at.ensures c.count_of-n.ensures c.put_item-at.ensures c.put_item-at.auto.out

pub shape_of-out : goal.shape_of-out
shape_of-out c = c.loop-x.invariant.same

pub returns : goal.returns
returns c = rendering_end _ _ _ _ _ _ _ _ _ c.loop-x.invariant c.loop-x-test.false

use Rattle.std.proofs.Common.{◌&&◌, ap, ◌∙◌, arith, rules}
use Rattle.lane.specs.Load.{captures}
use Rattle.lane.specs.Words.{Lane, lane_config}
use Rattle.runner.proofs.Filled.{fill_start, fill_more, fill_end}
use Rattle.runner.proofs.Lanes.{turn_start, turn_lane, turn_end}
use Rattle.runner.proofs.LoadRows.{masked_turn, capture_mask, capture_made}
use Rattle.runner.specs.PrivateLoad.{is_open, caught_in}
use Rattle.runner.proofs.load.capture_rows.Goals as goal

pub loop-n-init : goal.loop-n-init
loop-n-init c = (turn_start _ _ c.told-image, fill_start _ _ (search rules))

pub loop-n-preserved : goal.loop-n-preserved
loop-n-preserved c = let a = c.args in let l = c.loop-n-test.true in let h = c.loop-n.invariant in let mask = capture_mask _ _ _ a.vd _ _ _ c.requires.opens l c.full.ensures c.captures-2.ensures (c.word_at.ensures ∙ ap (λ (own : Lane). own lane_config) (turn_lane _ _ _ _ c.told-image l h.0)) in (masked_turn _ (λ (own : Lane). is_open own && captures a.vd (own lane_config)) _ _ _ _ _ _ _ c.told-image l h.0 mask c.put.ensures (capture_made _ _ _ (omega (arith, c.requires.vd))), fill_more _ _ _ _ l h.1 mask)

pub returns : goal.returns
unfolding caught_in
returns c = (turn_end _ _ _ _ c.loop-n-test.false c.loop-n.invariant.0, fill_end _ _ _ c.loop-n-test.false c.loop-n.invariant.1)

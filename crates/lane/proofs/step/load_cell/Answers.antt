use Rattle.std.proofs.Common.{◌+◌, [], ◌∷◌, get_or, rules, le-ltb}
use Rattle.lane.proofs.Cases.{has_one}
use Rattle.lane.proofs.Stores.{then_made, choose_true, choose_none}
use Rattle.lane.specs.Load.{captures, load_with}
use Rattle.lane.specs.Words.{pick}
use Rattle.lane.proofs.step.load_cell.Goals as goal

pub returns-then-loads : goal.returns-then-loads
unfolding load_with
returns-then-loads c = let a = c.args in rw (has_one (get_or a.own 12 0), ← c.loaded-word.ensures) (choose_true _ _ _ _ _ (rw c.loads.ensures at c.if-loads.true) (then_made ((a.vd, c.loaded-word.result) ∷ []) (pick (captures a.vd (get_or a.own 12 0)) ((a.vd + 4, a.at) ∷ []) []) a.own c.put.result c.capture.result c.put.ensures c.capture.ensures))

pub returns-else-loads : goal.returns-else-loads
unfolding load_with
returns-else-loads c = choose_none _ _ _ (rw c.loads.ensures at c.if-loads.false) (search rules)

pub returns-else-vd-lt8 : goal.returns-else-vd-lt8
unfolding load_with
returns-else-vd-lt8 c = choose_none _ _ _ (simp (le-ltb _ _ c.if-vd-lt8.false)) (search rules)

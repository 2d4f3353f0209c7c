use Rattle.std.proofs.Common.{◌+◌, ◌*◌, length, sym, ap, ◌∙◌, arith}
use Rattle.lane.proofs.Stores.{length_build}
use Rattle.runner.proofs.Counts.{room_left, zeros_are, room_less}
use Rattle.runner.proofs.Steps.{flagged_left, reached_start, reached_more, reached_same, reached_end}
use Rattle.runner.proofs.Tallied.{enabled_marks, room_owed}
use Rattle.runner.specs.declared.Tally.{Tally}
use Rattle.runner.specs.PrivateSteps.{enabled_in}
use Rattle.runner.proofs.run.step_list.Goals as goal
use Rattle.runner.proofs.run.step_list.Goals.{then-changes_flags, else-changes_flags}

pub loop-k-init : goal.loop-k-init
loop-k-init c = (omega arith, reached_start _ _ _ _ _ _ _ _ c.told-image c.told-dst c.enabled_row.ensures zeros_are zeros_are)

pub step_flagged-requires-clause-stores : goal.step_flagged-requires-clause-stores
step_flagged-requires-clause-stores c = let inv = c.loop-k.invariant in room_owed _ _ _ _ _ _ _ (omega (arith, inv.0, c.requires)) inv.1.few inv.1.eight inv.1.stores_is

pub step_lanes-next-requires-clause-ties : goal.step_lanes-next-requires-clause-ties
step_lanes-next-requires-clause-ties c = let inv = c.loop-k.invariant in room_left _ _ _ _ _ (omega (arith, inv.0, c.requires)) inv.1.ties_is

pub step_lanes-next-requires-clause-stores : goal.step_lanes-next-requires-clause-stores
step_lanes-next-requires-clause-stores c = let inv = c.loop-k.invariant in room_owed _ _ _ _ _ _ _ (omega (arith, inv.0, c.requires)) inv.1.few inv.1.eight inv.1.stores_is

pub loop-k-preserved : goal.loop-k-preserved
loop-k-preserved c =
    let inv = c.loop-k.invariant.1 in
    let i = c.insn_at-i.ensures in
    let flags = c.changes_flags.ensures in (
      omega arith,
      elim c.if-changes_flags.branch [
        | then-changes_flags w ↦ reached_same _ _ _ _ _ _ _ _ _ _ _ _ _ _ _ _ _ _ _ _ w.image-is w.dst-is w.go-is (ap (λ (x : Tally). x.ties) w.counts-is) (ap (λ (x : Tally). x.stores) w.counts-is) w.owed-is w.at-is (reached_more _ _ _ _ _ _ _ _ _ _ _ _ _ _ _ _ _ _ _ _ inv i (flagged_left _ _ _ _ _ _ _ _ _ _ _ (sym flags ∙ w.if-changes_flags.true) inv.dst_long (ap length inv.ties_is ∙ length_build 8 _) w.step_flagged.ensures))
        | else-changes_flags w ↦ reached_same _ _ _ _ _ _ _ _ _ _ _ _ _ _ _ _ _ _ _ _ w.image-is w.dst-is w.go-is (ap (λ (x : Tally). x.ties) w.counts-is) (ap (λ (x : Tally). x.stores) w.counts-is) w.owed-is w.at-is (reached_more _ _ _ _ _ _ _ _ _ _ _ _ _ _ _ _ _ _ _ _ inv i w.step_lanes-next.ensures)
      ],
    )

pub count_enabled-requires : goal.count_enabled-requires
count_enabled-requires c = let inv = c.loop-k.invariant in room_less (4 * c.loop-k.owed) (4 * c.loop-k.owed + 28) _ (omega arith) (room_owed _ _ _ _ _ _ _ (omega (arith, inv.0, c.requires)) inv.1.few inv.1.eight inv.1.stores_is)

pub returns : goal.returns
returns c = let inv = c.loop-k.invariant.1 in reached_end _ _ _ _ _ _ _ _ _ _ _ _ _ _ inv (omega arith) (c.count_enabled.ensures (enabled_in c.loop-k.image) (enabled_marks _ _ inv.enabled_is))

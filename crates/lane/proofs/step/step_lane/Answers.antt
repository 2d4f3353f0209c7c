use Rattle.std.proofs.Common.{sym, ◌∙◌, arith}
use Rattle.lane.proofs.Answers.{numbered, accepted, refused, accepted_lane}
use Rattle.lane.specs.Refusals.{lane_step}
use Rattle.lane.specs.Words.{lane_of}
use Rattle.lane.proofs.step.step_lane.Goals as goal

pub overflow_cast-n : goal.overflow_cast-n
overflow_cast-n c = let a = c.args in omega (arith, accepted_lane a.s a.lane a.i (lane_of a.own) (lane_of a.head) (sym (c.in_default.ensures)))

pub returns-in-Err : goal.returns-in-Err
unfolding lane_step
returns-in-Err c = refused _ _ _ _ _ _ (c.from.ensures ∙ c.in-Err.ensures) (λ z. numbered c.in-Err.why (sym c.from.ensures ∙ z))

pub returns : goal.returns
unfolding lane_step
returns c = accepted _ _ _ _ _ _ _ (sym (c.in_default.ensures)) c.lane_words.ensures c.lane_cells.ensures

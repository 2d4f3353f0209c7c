use Rattle.runner.specs.Walk.{begun}
use Rattle.std.proofs.Common.{◌∙◌}
use Rattle.runner.proofs.walk.begin.Goals as goal

pub returns : goal.returns
unfolding begun
returns c = let e = c.told-answer.ensures ∙ c.run_answer.ensures in λ i. record { answer = (e i).answer; place = (e i).place; walk = record { at = 0; cursor = c.args.s.cursor } }

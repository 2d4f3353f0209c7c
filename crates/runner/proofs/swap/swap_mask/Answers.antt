use Rattle.lane.specs.Words.{bit}
use Rattle.runner.proofs.SwapRows.{mask_made}
use Rattle.std.proofs.Common.{◌||◌}
use Rattle.runner.proofs.swap.swap_mask.Goals as goal

pub returns : goal.returns
returns c = λ e g. let a = c.args in mask_made a.go _ a.c a.d _ a.always (a.free || bit a.config 4) a.minimum (bit a.config 8) e (rw c.compared.ensures at c.is_below.ensures) (rw c.may_act.ensures at c.full.ensures) g

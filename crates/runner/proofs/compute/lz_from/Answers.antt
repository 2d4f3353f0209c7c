use Rattle.std.proofs.Common.{ℕ, ◌+◌, ◌%◌, ◌^◌, eqb, ap, ◌∙◌}
use Rattle.lane.specs.Words.{pick}
use Rattle.runner.proofs.ComputeRows.{limit_is}
use Rattle.runner.specs.PrivateCompute.{lz_from}
use lib.Bits.{bit_and}
use Rattle.runner.proofs.compute.lz_from.Goals as goal

pub returns : goal.returns
unfolding lz_from
returns c = let a = c.args in c.wrapping_add_u32.ensures.value ∙ ap (λ (k : ℕ). (a.count + k) % 2 ^ 32) (c.keep.ensures ∙ ap (λ (k : ℕ). pick (eqb k 0) 1 0) (ap (λ (k : ℕ). bit_and a.c k) c.lz_limit.ensures ∙ limit_is a.m a.c c.ranges.c.fits))

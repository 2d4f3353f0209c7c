use Rattle.std.proofs.Common.{ℕ, ap, ◌∙◌}
use Rattle.runner.proofs.ComputeRows.{limit_is}
use Rattle.runner.specs.PrivateCompute.{lz_count}
use lib.Bits.{bit_and, bit_or}
use lib.Count.{count_leading_zeros}
use Rattle.runner.proofs.compute.lz_count.Goals as goal

pub returns : goal.returns
unfolding lz_count
returns c = λ m e. ap (λ (k : ℕ). count_leading_zeros 32 (bit_or k 1)) (ap (λ (k : ℕ). bit_and c.args.c k) e ∙ limit_is m c.args.c c.ranges.c.fits)

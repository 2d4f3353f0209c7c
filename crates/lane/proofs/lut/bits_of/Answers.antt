use Rattle.std.proofs.Common.{sym, refl}
use lib.Ieee.{to_bits}
use Rattle.lane.proofs.Floats.{only_nan}
use Rattle.lane.proofs.lut.bits_of.Goals as goal

pub returns-then-is_nan : goal.returns-then-is_nan
unfolding to_bits
returns-then-is_nan c = rw (← (only_nan c.args.x (sym c.if-is_nan.ensures.value))) refl

use Rattle.std.proofs.Common.{sym, ◌∙◌, le-ltb, lt-ltb}
use lib.Ieee.{of_bits, binary32}
use lib.Ieee.Bits.{nan_bits_above, nan_bits_is}
use Rattle.lane.proofs.Floats.{only_nan, nan_bits}
use Rattle.lane.proofs.lut.float_of.Goals as goal

pub float_from_bits-result : goal.float_from_bits-result
float_from_bits-result c = rw (nan_bits_above, le-ltb _ _ c.if-w-gt2139095040.false) tt

pub returns-then-w-gt2139095040 : goal.returns-then-w-gt2139095040
returns-then-w-gt2139095040 c = nan_bits ∙ only_nan (of_bits binary32 c.args.w) (sym (nan_bits_is binary32 c.args.w) ∙ nan_bits_above binary32 c.args.w ∙ lt-ltb _ _ c.if-w-gt2139095040.true)

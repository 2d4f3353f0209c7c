-- The one NaN of the logic and the many of the machine. Assumes nothing.
use Rattle.std.proofs.Common.{◌≡◌, true, refl}
use mathlib.Core.Bool.{false≢true}
use lib.Ieee.{Float, nan, inf, fin, is_nan, binary32, of_bits}

pub only_nan : (x : Float) → is_nan x ≡ true → nan ≡ x
unfolding is_nan
only_nan nan h = refl
only_nan (inf s) h = absurd (false≢true h)
only_nan (fin s m e) h = absurd (false≢true h)

pub nan_bits : of_bits binary32 0x7FC00000 ≡ nan
unfolding of_bits
nan_bits = refl

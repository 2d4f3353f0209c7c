use Rattle.std.proofs.Common.{◌≡◌, ℕ, ◌+◌, ◌*◌, ◌/◌, ◌%◌, ◌^◌, ◌<◌, ◌-◌, ltb, refl, ap, ◌∙◌, ap₂, lt_of_not-le, arith, le-ltb, lt-ltb}
use native.Mathlib.Decide.{dec_le}
use lib.Bits.{bit_and, bit_or, and_block, and_high, or_block, or_shifted, or_zero_r}
use Rattle.lane.specs.Load.{bf16}
use Rattle.lane.specs.Words.{pick}
use Rattle.lane.proofs.load.bf16.Goals as goal

-- ---- what the two masks keep of a word, and the two together

exponent : (w : ℕ) → bit_and w 0x7F800000 ≡ w / 2 ^ 23 % 256 * 2 ^ 23
exponent w = and_high w 8 23

sign_and_digits : (w : ℕ) → w < 2 ^ 32 → bit_and w 0x807F0000 ≡ w / 2 ^ 31 * 2 ^ 31 + w / 2 ^ 16 % 128 * 2 ^ 16
sign_and_digits w h =
    let cut : w ≡ w / 2 ^ 23 * 2 ^ 23 + w % 2 ^ 23 = omega arith in
    let top : w / 2 ^ 23 / 2 ^ 8 % 2 ^ 1 ≡ w / 2 ^ 31 = omega (arith, h) in
    let middle : w % 2 ^ 23 / 2 ^ 16 % 2 ^ 7 ≡ w / 2 ^ 16 % 128 = omega arith in
    ap (λ (v : ℕ). bit_and v 0x807F0000) cut
    ∙ and_block 23 (w / 2 ^ 23) 256 (w % 2 ^ 23) 0x7F0000 (omega arith) (omega arith)
    ∙ rw (and_high (w / 2 ^ 23) 1 8, and_high (w % 2 ^ 23) 7 16, top, middle) (omega arith)

together : (s d e : ℕ) → d < 128 → e < 256 → bit_or (s * 2 ^ 31 + d * 2 ^ 16) (e * 2 ^ 23) ≡ s * 2 ^ 31 + e * 2 ^ 23 + d * 2 ^ 16
together s d e h k =
    let high : s * 2 ^ 31 + d * 2 ^ 16 ≡ s * 2 ^ 8 * 2 ^ 23 + d * 2 ^ 16 = omega arith in
    let low : e * 2 ^ 23 ≡ e * 2 ^ 23 + 0 = omega arith in
    ap₂ bit_or high low
    ∙ or_block 23 (s * 2 ^ 8) e (d * 2 ^ 16) 0 (omega (arith, h)) (omega arith)
    ∙ rw (or_shifted s 8 e k, or_zero_r (d * 2 ^ 16)) (omega arith)

-- ---- where the shifts bring a cell's fields

module _ (x r : ℕ) (h : x < 2 ^ 16) (e : r ≡ x * 2 ^ 8 / 2 ^ 23 * 0xFF000000 + x * 2 ^ 8) where
  sign : r / 2 ^ 31 ≡ x / 2 ^ 15
  sign = omega (arith, h, e)

  digits : r / 2 ^ 16 % 128 ≡ x / 256 % 128
  digits = omega (arith, h, e)

low_byte : (x : ℕ) → x * 2 ^ 23 % 2 ^ 32 / 2 ^ 23 % 256 ≡ x % 256
low_byte x = omega arith

-- 24 bits, extended by their sign
extension : (v r : ℕ) → v < 2 ^ 24 → r ≡ pick (ltb v (2 ^ 23)) v (v + (2 ^ 32 - 2 ^ 24)) → r ≡ v / 2 ^ 23 * 0xFF000000 + v
unfolding pick
extension v r h e =
    elim (dec_le (2 ^ 23) v) [
      | yes l ↦ let f : r ≡ v + (2 ^ 32 - 2 ^ 24) = rw (le-ltb v (2 ^ 23) l) at e in omega (arith, f, h, l)
      | no l ↦ let f : r ≡ v = rw (lt-ltb v (2 ^ 23) (lt_of_not-le l)) at e in omega (arith, f, h, lt_of_not-le l)
    ]

unpacked : (x r : ℕ) → x < 2 ^ 16 → r < 2 ^ 32 → r ≡ pick (ltb (x * 2 ^ 8 % 2 ^ 32) (2 ^ 23)) (x * 2 ^ 8 % 2 ^ 32) (x * 2 ^ 8 % 2 ^ 32 + (2 ^ 32 - 2 ^ 24))
    → bit_or (bit_and r 0x807F0000) (bit_and (x * 2 ^ 23 % 2 ^ 32) 0x7F800000) ≡ bf16 x
unfolding bf16
unpacked x r h k e =
    let under : x * 2 ^ 8 < 2 ^ 24 = omega (arith, h) in
    let whole : x * 2 ^ 8 % 2 ^ 32 ≡ x * 2 ^ 8 = omega (arith, under) in
    let f = extension (x * 2 ^ 8) r under (rw whole at e) in
    rw (sign_and_digits r k, exponent (x * 2 ^ 23 % 2 ^ 32), sign x r h f, digits x r h f, low_byte x)
    (together (x / 2 ^ 15) (x / 256 % 128) (x % 256) (omega arith) (omega arith))

pub returns : goal.returns
returns c = unpacked _ _ c.ranges.cell.fits c.extended-signed.type_inv (c.extended-signed.ensures 23 (omega arith) refl (omega arith))

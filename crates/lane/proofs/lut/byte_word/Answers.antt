use Rattle.std.proofs.Common.{◌≡◌, ℕ, ◌+◌, ◌-◌, ◌*◌, ◌%◌, ◌^◌, ◌<◌, Bool, true, eqb, ltb, refl, ap, ◌∙◌, arith, eqb-true}
use lib.Bits.{bit_and, bit_xor}
use Rattle.lane.specs.Words.{pick}
use Rattle.lane.specs.Lut.{byte_word}
use Rattle.lane.proofs.Cases.{if_eq, if_ne}
use Rattle.lane.proofs.Tables.{all_below, below_all}
use Rattle.lane.proofs.lut.byte_word.Goals as goal

-- the byte extended by its sign, and the word made of that
abbrev extended : ℕ → ℕ
extended x = pick (ltb x 128) x (x + (2 ^ 32 - 256))

abbrev word_of : ℕ → ℕ
word_of r = bit_xor (bit_and (r * 2 ^ 19 % 2 ^ 32) 0x83F80000) 0x3F800000

abbrev answer : ℕ → ℕ
answer r = pick (eqb (word_of r) 0xBC780000) 0 (word_of r)

abbrev agrees : ℕ → Bool
agrees x = eqb (answer (extended x)) (byte_word x)

all_bytes : all_below 256 agrees ≡ true
unfolding pick byte_word
all_bytes = refl

byte_is : (x r z : ℕ) → x < 256 → r ≡ extended x → z ≡ answer r → z ≡ byte_word x
byte_is x r z h e q = q ∙ ap answer e ∙ eqb-true (answer (extended x)) (byte_word x) (below_all 256 agrees x all_bytes h)

pub returns-then-word : goal.returns-then-word
returns-then-word c = byte_is _ _ 0 c.ranges.byte.fits (c.extended-signed.ensures 7 (omega arith) refl (omega arith)) (if_eq _ _ _ _ _ c.if-word.true refl)

pub returns-else-word : goal.returns-else-word
returns-else-word c = byte_is _ _ _ c.ranges.byte.fits (c.extended-signed.ensures 7 (omega arith) refl (omega arith)) (if_ne _ _ _ _ _ c.if-word.false refl)

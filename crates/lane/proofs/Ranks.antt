-- SWAP's comparison: keys are in the order of ranks, and what its three answers say. Assumes nothing.
use Rattle.std.proofs.Common.{◌≡◌, ℕ, ◌+◌, ◌-◌, ◌*◌, ◌%◌, ◌^◌, ◌<◌, ◌≤◌, Bool, true, false, not, ◌||◌, eqb, ltb, leb, ℤ, pos, negsuc, sym, refl, ap, ◌∙◌, lt_of_not-le, zero-add, arith, le-ltb, lt-ltb, eq-eqb, ne_eqb, eqb-true, le-leb}
use native.Mathlib.Decide.{dec_le, ℕ_discrete}
use mathlib.Core.Bool.{beq, false≢true}
use lib.Bits.{bit_and, bit_xor, and_mask, xor_add_and, xor_shifted, xor_block, xor_zero_r, xor_comm}
use lib.Signed.{lt_z}
use borrow.Author.Tests.{lt-leb}
use Rattle.lane.specs.declared.Order.TheVariants.{Below, Equal, Above}
use Rattle.lane.specs.Words.{pick}
use Rattle.lane.specs.Swap.{rank, ranks_below, eq_z, ranks_equal, compared, is_below, is_equal, swaps}

-- one order or the other
split {ℓ} : {X : Type ℓ} (a b : ℕ) → (b ≤ a → X) → (a < b → X) → X
split a b f g = elim (dec_le b a) [ yes h ↦ f h | no h ↦ g (lt_of_not-le h) ]

-- ---- keys: what `key` promises

abbrev pub key : ℕ → ℕ
key x = pick (ltb x 0x80000000) (x + 0x80000000) (0xFFFFFFFF - x)

without : (x y a : ℕ) → 0x80000000 ≤ x → x < 2 ^ 32 → y + a * 2 ≡ x + 0x7FFFFFFF → a ≡ x % 2 ^ 31 → y ≡ 1 * 2 ^ 31 + (0xFFFFFFFF - x)
without x y a l h e k = omega arith

other_way : (x y : ℕ) → y ≡ 0x80000000 + x → y ≡ x + 0x80000000
other_way x y e = omega arith

pub key_is : (x : ℕ) → x < 2 ^ 32 → bit_xor (bit_xor x (pick (leb 0x80000000 x) 0x7FFFFFFF 0)) 0x80000000 ≡ key x
unfolding pick
key_is x h =
    split x 0x80000000
    (λ k. simp (le-leb 0x80000000 x k, le-ltb x 0x80000000 k) (turned k))
    (λ k. simp (lt-leb 0x80000000 x k, lt-ltb x 0x80000000 k) (raised k))
  where
    -- the top bit set, and the rest turned; then the top bit goes
    turned : 0x80000000 ≤ x → bit_xor (bit_xor x 0x7FFFFFFF) 0x80000000 ≡ 0xFFFFFFFF - x
    turned k =
        ap (λ (y : ℕ). bit_xor y 0x80000000) (without x (bit_xor x 0x7FFFFFFF) (bit_and x 0x7FFFFFFF) k h (xor_add_and x 0x7FFFFFFF) (and_mask x 31))
        ∙ xor_block 31 1 1 (0xFFFFFFFF - x) 0 (omega arith) (omega arith) ∙ ap (λ (y : ℕ). 0 + y) (xor_zero_r (0xFFFFFFFF - x)) ∙ zero-add (0xFFFFFFFF - x)

    raised : x < 0x80000000 → bit_xor (bit_xor x 0) 0x80000000 ≡ x + 0x80000000
    raised k = ap (λ (y : ℕ). bit_xor y 0x80000000) (xor_zero_r x) ∙ xor_comm x 0x80000000 ∙ other_way x (bit_xor 0x80000000 x) (xor_shifted 1 31 x k)

-- keys stand in one order if and only if other numbers do
same_order : (a b c d : ℕ) → (a < b → c < d) → (b ≤ a → d ≤ c) → ltb a b ≡ ltb c d
same_order a b c d f g = split a b (λ h. le-ltb a b h ∙ sym (le-ltb c d (g h))) (λ h. lt-ltb a b h ∙ sym (lt-ltb c d (f h)))

key_order : (c d : ℕ) → c < 2 ^ 32 → d < 2 ^ 32 → ltb (key c) (key d) ≡ ranks_below c d
unfolding ranks_below rank pick
key_order c d fc fd =
    split c (2 ^ 31)
    (λ hc.
    split d (2 ^ 31)
    (λ hd.
    simp (le-ltb c (2 ^ 31) hc, le-ltb d (2 ^ 31) hd)
    (same_order (0xFFFFFFFF - c) (0xFFFFFFFF - d) (d % 2 ^ 31) (c % 2 ^ 31) (λ h. omega arith) (λ h. omega arith)))
    (λ hd. simp (le-ltb c (2 ^ 31) hc, lt-ltb d (2 ^ 31) hd) (lt-ltb (0xFFFFFFFF - c) (d + 0x80000000) (omega arith))))
    (λ hc.
    split d (2 ^ 31)
    (λ hd. simp (lt-ltb c (2 ^ 31) hc, le-ltb d (2 ^ 31) hd) (le-ltb (c + 0x80000000) (0xFFFFFFFF - d) (omega arith)))
    (λ hd.
    simp (lt-ltb c (2 ^ 31) hc, lt-ltb d (2 ^ 31) hd)
    (same_order (c + 0x80000000) (d + 0x80000000) c d (λ h. omega arith) (λ h. omega arith))))

-- ---- equal ranks are equal words

eq_z_refl : (a : ℤ) → eq_z a a ≡ true
eq_z_refl (pos a) = eq-eqb a a refl
eq_z_refl (negsuc a) = eq-eqb a a refl

pub eq_z_eq : (a b : ℤ) → eq_z a b ≡ true → a ≡ b
eq_z_eq (pos a) (pos b) h = ap pos (eqb-true a b h)
eq_z_eq (pos a) (negsuc b) h = absurd (false≢true h)
eq_z_eq (negsuc a) (pos b) h = absurd (false≢true h)
eq_z_eq (negsuc a) (negsuc b) h = ap negsuc (eqb-true a b h)

pub eq_eq_z : (a b : ℤ) → a ≡ b → eq_z a b ≡ true
eq_eq_z a b e = ap (λ (x : ℤ). eq_z a x) (sym e) ∙ eq_z_refl a

same_test : (a b c d : ℕ) → (a ≡ b → c ≡ d) → ((a ≡ b → ⊥) → c ≡ d → ⊥) → eqb a b ≡ eqb c d
same_test a b c d f g = elim (ℕ_discrete a b) [ yes h ↦ eq-eqb a b h ∙ sym (eq-eqb c d (f h)) | no h ↦ ne_eqb a b h ∙ sym (ne_eqb c d (g h)) ]

equal_words : (c d : ℕ) → c < 2 ^ 32 → d < 2 ^ 32 → ranks_equal c d ≡ eqb c d
unfolding ranks_equal rank pick
equal_words c d fc fd =
    split c (2 ^ 31)
    (λ hc.
    split d (2 ^ 31)
    (λ hd.
    simp (le-ltb c (2 ^ 31) hc, le-ltb d (2 ^ 31) hd)
    (same_test (c % 2 ^ 31) (d % 2 ^ 31) c d (λ h. omega arith) (λ h e. h (ap (λ (x : ℕ). x % 2 ^ 31) e))))
    (λ hd. simp (le-ltb c (2 ^ 31) hc, lt-ltb d (2 ^ 31) hd) (sym (ne_eqb c d (λ e. omega arith)))))
    (λ hc.
    split d (2 ^ 31)
    (λ hd. simp (lt-ltb c (2 ^ 31) hc, le-ltb d (2 ^ 31) hd) (sym (ne_eqb c d (λ e. omega arith))))
    (λ hd. simp (lt-ltb c (2 ^ 31) hc, lt-ltb d (2 ^ 31) hd)))

-- equal keys are equal words
key_equal : (c d : ℕ) → c < 2 ^ 32 → d < 2 ^ 32 → eqb (key c) (key d) ≡ ranks_equal c d
unfolding pick
key_equal c d fc fd =
    split c (2 ^ 31)
    (λ hc.
    split d (2 ^ 31)
    (λ hd.
    simp (le-ltb c (2 ^ 31) hc, le-ltb d (2 ^ 31) hd)
    (same_test (0xFFFFFFFF - c) (0xFFFFFFFF - d) c d (λ h. omega arith) (λ h e. h (ap (λ (x : ℕ). 0xFFFFFFFF - x) e))))
    (λ hd. simp (le-ltb c (2 ^ 31) hc, lt-ltb d (2 ^ 31) hd) (ne_eqb (0xFFFFFFFF - c) (d + 0x80000000) (λ e. omega arith) ∙ sym (ne_eqb c d (λ e. omega arith)))))
    (λ hc.
    split d (2 ^ 31)
    (λ hd. simp (lt-ltb c (2 ^ 31) hc, le-ltb d (2 ^ 31) hd) (ne_eqb (c + 0x80000000) (0xFFFFFFFF - d) (λ e. omega arith) ∙ sym (ne_eqb c d (λ e. omega arith))))
    (λ hd.
    simp (lt-ltb c (2 ^ 31) hc, lt-ltb d (2 ^ 31) hd)
    (same_test (c + 0x80000000) (d + 0x80000000) c d (λ h. omega arith) (λ h e. h (ap (λ (x : ℕ). x + 0x80000000) e)))))
    ∙ sym (equal_words c d fc fd)

-- the comparison of two words is that of their keys
pub by_keys : (c d a b : ℕ) → c < 2 ^ 32 → d < 2 ^ 32 → a ≡ key c → b ≡ key d → pick (ltb a b) Below (pick (eqb a b) Equal Above) ≡ compared c d
unfolding compared
by_keys c d a b fc fd p q =
    rw (p, q)
    (ap (λ (t : Bool). pick t Below (pick (eqb (key c) (key d)) Equal Above)) (key_order c d fc fd)
    ∙ ap (λ (t : Bool). pick (ranks_below c d) Below (pick t Equal Above)) (key_equal c d fc fd))

-- ---- what the three answers say

below_by : (s t : Bool) → is_below (pick s Below (pick t Equal Above)) ≡ s
unfolding pick
below_by true t = refl
below_by false true = refl
below_by false false = refl

-- document 01's sentence: below is "ranks below", and the two others are "does not rank below"
pub below_is : (c d : ℕ) → is_below (compared c d) ≡ ranks_below c d
unfolding compared
below_is c d = below_by (ranks_below c d) (ranks_equal c d)

equal_by : (s t : Bool) → (s ≡ true → t ≡ true → ⊥) → is_equal (pick s Below (pick t Equal Above)) ≡ t
unfolding pick
equal_by true true h = absurd (h refl refl)
equal_by true false h = refl
equal_by false true h = refl
equal_by false false h = refl

-- no number is below itself
not_below : (a : ℕ) → ltb a a ≡ false
not_below a = le-ltb a a (omega arith)

lt_z_same : (a : ℤ) → lt_z a a ≡ false
lt_z_same (pos a) = not_below a
lt_z_same (negsuc a) = not_below a

pub not_both : (c d : ℕ) → ranks_below c d ≡ true → ranks_equal c d ≡ true → ⊥
unfolding ranks_below ranks_equal
not_both c d h k = false≢true (sym (lt_z_same (rank c)) ∙ ap (λ (x : ℤ). lt_z (rank c) x) (eq_z_eq (rank c) (rank d) k) ∙ h)

equal_is : (c d : ℕ) → is_equal (compared c d) ≡ ranks_equal c d
unfolding compared
equal_is c d = equal_by (ranks_below c d) (ranks_equal c d) (not_both c d)

pub tied_words : (c d : ℕ) → c < 2 ^ 32 → d < 2 ^ 32 → is_equal (compared c d) ≡ eqb c d
tied_words c d fc fd = equal_is c d ∙ equal_words c d fc fd

-- ---- the decision

-- what `swaps` computes of the order's answer
decides : (a m r b : Bool) → (a || not (beq r (beq m b))) ≡ (a || pick r (not (pick m b (not b))) (pick m b (not b)))
unfolding pick
decides true m r b = refl
decides false true true true = refl
decides false true true false = refl
decides false true false true = refl
decides false true false false = refl
decides false false true true = refl
decides false false true false = refl
decides false false false true = refl
decides false false false false = refl

pub swaps_is : (a m r : Bool) (c d : ℕ) → (a || not (beq r (beq m (is_below (compared c d))))) ≡ swaps a m r c d
unfolding swaps
swaps_is a m r c d = decides a m r (is_below (compared c d))

-- A register as an operand, and each operation of rows met with its lane's own registers. Assumes nothing.
use Rattle.std.proofs.Common.{◌≡◌, ℕ, zero, suc, ◌+◌, ◌-◌, ◌*◌, ◌/◌, ◌%◌, ◌^◌, ◌<◌, ◌≤◌, Bool, true, false, ◌&&◌, ◌||◌, eqb, ltb, List, [], get_or, sym, refl, ap, ◌∙◌, true≢false, arith, le-ltb, lt-ltb, ne_eqb}
use Rattle.lane.specs.declared.Insn.{Insn}
use Rattle.lane.specs.Words.{pick, has, Lane, is_stored, slot_of, reg, fixed_word}
use lib.Bits.{bit_and, bit_or, bit_xor}
use Rattle.lane.specs.Compute.{abs_word, exman_word, word_only, other, value_word, valued_with, valued, iadd_with, iadd, lz_with, lz, exexp_with, exexp}
use Rattle.lane.proofs.Cases.{pick_true, pick_false}
use Rattle.lane.proofs.Stores.{get_d_build}
use Rattle.runner.specs.Image.{lane_in}
use Rattle.runner.specs.PrivateRows.{row, fixed_register, fixed_rows, register_of}
use Rattle.runner.proofs.Lanes.{split}
use Rattle.runner.proofs.Filled.{row_same}
use Rattle.runner.proofs.Made.{no_word, no_word_and_flag}

pub reg_low : (L : ℕ) (own : Lane) (r : ℕ) → r < 8 → reg L own r ≡ own r
unfolding reg pick
reg_low L own r h = simp (lt-ltb r 8 h)

pub reg_last : (L : ℕ) (own : Lane) (r : ℕ) → 15 ≤ r → reg L own r ≡ fixed_word r L
unfolding reg pick
reg_last L own r h = simp (le-ltb r 8 (omega arith), lt-ltb 10 r (omega arith), le-ltb r 15 h)

-- the rows of the registers that are never stored
pub fixed_place : (p q n : ℕ) → p / 32 ≡ q → p % 32 ≡ n → fixed_word (fixed_register q) n ≡ fixed_word (fixed_register (p / 32)) (p % 32)
fixed_place p q n e k = cc

pub reg_known : (L : ℕ) (own : Lane) (r : ℕ) → reg L own (register_of r) ≡ reg L own r
unfolding register_of fixed_word pick
reg_known L own r = split r 16 (λ h. past h) (λ h. ap (λ (q : ℕ). reg L own q) (pick_true (ltb r 16) r 15 (lt-ltb r 16 h)))
  where
    past : 16 ≤ r → reg L own (pick (ltb r 16) r 15) ≡ reg L own r
    past h =
        ap (λ (q : ℕ). reg L own q) (pick_false (ltb r 16) r 15 (le-ltb r 16 h)) ∙ reg_last L own 15 (omega arith)
        ∙ sym (reg_last L own r (omega arith) ∙ simp (ne_eqb r 8 (λ e. omega arith), ne_eqb r 9 (λ e. omega arith), ne_eqb r 10 (λ e. omega arith)))

-- the mask of the registers that are stored
pub stored_bit : (q : ℕ) → q < 16 → eqb (0x78FF / 2 ^ q % 2) 1 ≡ is_stored q
stored_bit zero h = refl
stored_bit (suc zero) h = refl
stored_bit (suc (suc zero)) h = refl
stored_bit (suc (suc (suc zero))) h = refl
stored_bit (suc (suc (suc (suc zero)))) h = refl
stored_bit (suc (suc (suc (suc (suc zero))))) h = refl
stored_bit (suc (suc (suc (suc (suc (suc zero)))))) h = refl
stored_bit (suc (suc (suc (suc (suc (suc (suc zero))))))) h = refl
stored_bit (suc (suc (suc (suc (suc (suc (suc (suc zero)))))))) h = refl
stored_bit (suc (suc (suc (suc (suc (suc (suc (suc (suc zero))))))))) h = refl
stored_bit (suc (suc (suc (suc (suc (suc (suc (suc (suc (suc zero)))))))))) h = refl
stored_bit (suc (suc (suc (suc (suc (suc (suc (suc (suc (suc (suc zero))))))))))) h = refl
stored_bit (suc (suc (suc (suc (suc (suc (suc (suc (suc (suc (suc (suc zero)))))))))))) h = refl
stored_bit (suc (suc (suc (suc (suc (suc (suc (suc (suc (suc (suc (suc (suc zero))))))))))))) h = refl
stored_bit (suc (suc (suc (suc (suc (suc (suc (suc (suc (suc (suc (suc (suc (suc zero)))))))))))))) h = refl
stored_bit (suc (suc (suc (suc (suc (suc (suc (suc (suc (suc (suc (suc (suc (suc (suc zero))))))))))))))) h = refl
stored_bit (suc (suc (suc (suc (suc (suc (suc (suc (suc (suc (suc (suc (suc (suc (suc (suc q)))))))))))))))) h = absurd (none q h)
  where
    none : (q : ℕ) → suc (suc (suc (suc (suc (suc (suc (suc (suc (suc (suc (suc (suc (suc (suc (suc q))))))))))))))) < 16 → ⊥
    none q h = omega arith

-- a register from the part that holds its row
pub reg_stored : (L : ℕ) (own : Lane) (q : ℕ) → is_stored q ≡ true → own (slot_of q) ≡ reg L own q
unfolding reg
reg_stored L own q e = sym (pick_true (is_stored q) (own (slot_of q)) (fixed_word q L) e)

pub reg_unstored : (L : ℕ) (own : Lane) (q : ℕ) → L < 32 → q < 16 → is_stored q ≡ false → get_or fixed_rows (32 * (q % 4) + L) 0 ≡ reg L own q
unfolding reg fixed_rows pick
reg_unstored L own q l h e =
    get_d_build 128 _ (32 * (q % 4) + L) (omega arith) ∙ sym (fixed_place (32 * (q % 4) + L) (q % 4) L (omega arith) (omega arith))
    ∙ ap (λ (r : ℕ). fixed_word r L) (known q h e) ∙ sym (pick_false (is_stored q) (own (slot_of q)) (fixed_word q L) e)
  where
    known : (q : ℕ) → q < 16 → is_stored q ≡ false → fixed_register (q % 4) ≡ q
    known q h e = split q 8 (λ a. split q 11 (λ b. last (omega (arith, low b))) (λ b. few a b)) (λ a. absurd (true≢false (sym (ap (λ (t : Bool). t || (ltb 10 q && ltb q 15)) (lt-ltb q 8 a)) ∙ e)))
      where
        low : 11 ≤ q → 15 ≤ q
        low b = split q 15 (λ k. k) (λ k. absurd (true≢false (sym (simp (le-ltb q 8 (omega arith), lt-ltb 10 q (omega arith), lt-ltb q 15 k)) ∙ e)))

        last : q ≡ 15 → fixed_register (q % 4) ≡ q
        last k = rw k

        few : 8 ≤ q → q < 11 → fixed_register (q % 4) ≡ q
        few a b = pick_true (ltb (q % 4) 3) (8 + q % 4) 15 (lt-ltb (q % 4) 3 (omega arith)) ∙ omega arith

-- an operand row, from the part that holds it
pub from_image : (image x : List ℕ) (r q s k : ℕ) (t : Bool) → q ≡ register_of r → t ≡ is_stored q → t ≡ true → s ≡ slot_of q → k ≡ pick t s (q % 4)
    → x ≡ row (λ L. get_or image (32 * k + L) 0)
    → x ≡ row (λ L. reg L (lane_in image L) r)
unfolding lane_in
from_image image x r q s k t eq et on es ek e =
    e
    ∙ row_same _ _
    (λ L l.
    ap (λ (j : ℕ). get_or image (32 * j + L) 0) (ek ∙ pick_true t s (q % 4) on ∙ es) ∙ reg_stored L (lane_in image L) q (sym et ∙ on)
    ∙ ap (λ (j : ℕ). reg L (lane_in image L) j) eq ∙ reg_known L (lane_in image L) r)

pub from_fixed : (image fixed x : List ℕ) (r q s k : ℕ) (t : Bool) → q < 16 → fixed ≡ fixed_rows → q ≡ register_of r → t ≡ is_stored q → t ≡ false → k ≡ pick t s (q % 4)
    → x ≡ row (λ L. get_or fixed (32 * k + L) 0)
    → x ≡ row (λ L. reg L (lane_in image L) r)
from_fixed image fixed x r q s k t h ef eq et off ek e =
    e
    ∙ row_same _ _
    (λ L l.
    ap (λ (f : List ℕ). get_or f (32 * k + L) 0) ef ∙ ap (λ (j : ℕ). get_or fixed_rows (32 * j + L) 0) (ek ∙ pick_false t s (q % 4) off)
    ∙ reg_unstored L (lane_in image L) q l h (sym et ∙ off) ∙ ap (λ (j : ℕ). reg L (lane_in image L) j) eq ∙ reg_known L (lane_in image L) r)

-- ---- vd read in place

pub valued_lane : (op : ℕ) (i : Insn) (L : ℕ) (own : Lane) (b c : ℕ) → i.vd < 8 → b ≡ reg L own i.vb → c ≡ reg L own i.vc
    → valued_with op i b c (own i.vd) own ≡ valued op i L own
unfolding valued
valued_lane op i L own b c h e k = cc (reg_low L own i.vd h)

-- vb is read by AND and OR under mod 1 alone
unread : (o8 o9 h : Bool) → ((o8 || o9) && h) ≡ false → (x y d : ℕ) (f g : ℕ → ℕ) (z : ℕ)
    → pick o8 (f (pick h x d)) (pick o9 (g (pick h x d)) z) ≡ pick o8 (f (pick h y d)) (pick o9 (g (pick h y d)) z)
unfolding pick
unread true o9 true e x y d f g z = absurd (true≢false e)
unread true o9 false e x y d f g z = refl
unread false true true e x y d f g z = absurd (true≢false e)
unread false true false e x y d f g z = refl
unread false false h e x y d f g z = refl

pub vb_unread : (op : ℕ) (i : Insn) (x y c d : ℕ) (own : Lane) → ((eqb op 8 || eqb op 9) && has i.md 1) ≡ false
    → valued_with op i x c d own ≡ valued_with op i y c d own
unfolding valued_with value_word other
vb_unread op i x y c d own e =
    ap (λ (w : ℕ). word_only i.vd (pick (eqb op 7) (abs_word i.md c) w) own)
    (unread (eqb op 8) (eqb op 9) (has i.md 1) e x y d (λ (z : ℕ). bit_and z c) (λ (z : ℕ). bit_or z c)
    (pick (eqb op 10) (bit_xor d c) (pick (eqb op 11) (2 ^ 32 - 1 - c) (exman_word i.md c))))

-- ---- nothing is stored at vd 8 or more

pub no_iadd : (i : Insn) (L : ℕ) (own : Lane) → 8 ≤ i.vd → iadd i L own ≡ []
unfolding iadd iadd_with
no_iadd i L own h = no_word_and_flag i.vd _ _ own h

pub no_lz : (i : Insn) (L : ℕ) (own : Lane) → 8 ≤ i.vd → lz i L own ≡ []
unfolding lz lz_with
no_lz i L own h = no_word_and_flag i.vd _ _ own h

pub no_exexp : (i : Insn) (L : ℕ) (own : Lane) → 8 ≤ i.vd → exexp i L own ≡ []
unfolding exexp exexp_with
no_exexp i L own h = no_word_and_flag i.vd _ _ own h

pub no_valued : (op : ℕ) (i : Insn) (L : ℕ) (own : Lane) → 8 ≤ i.vd → valued op i L own ≡ []
unfolding valued valued_with
no_valued op i L own h = no_word i.vd _ own h

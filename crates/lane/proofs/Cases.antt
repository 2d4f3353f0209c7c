-- How a branch of the code meets a `pick` of specs/: `search (needs, cases)` goes down a chain of picks by the tests that led to a return.
-- Assumes nothing.
use Rattle.std.proofs.Common.{◌≡◌, ℕ, ◌/◌, ◌%◌, ◌<◌, ◌≤◌, Bool, true, false, eqb, ltb, leb, sym, refl, ap, ◌∙◌, div-one, arith, le-ltb, lt-ltb, eq-eqb, ne_eqb, le-leb}
use borrow.Author.Tests.{lt-leb}
use mir.Val.{bool_byte}
use Rattle.lane.specs.Words.{pick, has, flag_of}

pub pick_true {ℓ} : {X : Type ℓ} (t : Bool) (x y : X) → t ≡ true → pick t x y ≡ x
unfolding pick
pick_true t x y h = ap (λ (b : Bool). pick b x y) h

pub pick_false {ℓ} : {X : Type ℓ} (t : Bool) (x y : X) → t ≡ false → pick t x y ≡ y
unfolding pick
pick_false t x y h = ap (λ (b : Bool). pick b x y) h

module _ {X : Type 0} (x y z : X) where
  pub if_true : (t : Bool) → t ≡ true → z ≡ x → z ≡ pick t x y
  if_true t h e = e ∙ sym (pick_true t x y h)

  pub if_false : (t : Bool) → t ≡ false → z ≡ y → z ≡ pick t x y
  if_false t h e = e ∙ sym (pick_false t x y h)

  pub if_lt : (a b : ℕ) → a < b → z ≡ x → z ≡ pick (ltb a b) x y
  if_lt a b h e = if_true (ltb a b) (lt-ltb a b h) e

  pub if_ge : (a b : ℕ) → b ≤ a → z ≡ y → z ≡ pick (ltb a b) x y
  if_ge a b h e = if_false (ltb a b) (le-ltb a b h) e

  pub if_le : (a b : ℕ) → a ≤ b → z ≡ x → z ≡ pick (leb a b) x y
  if_le a b h e = if_true (leb a b) (le-leb a b h) e

  pub if_gt : (a b : ℕ) → b < a → z ≡ y → z ≡ pick (leb a b) x y
  if_gt a b h e = if_false (leb a b) (lt-leb a b h) e

  pub if_eq : (a b : ℕ) → a ≡ b → z ≡ x → z ≡ pick (eqb a b) x y
  if_eq a b h e = if_true (eqb a b) (eq-eqb a b h) e

  pub if_ne : (a b : ℕ) → (a ≡ b → ⊥) → z ≡ y → z ≡ pick (eqb a b) x y
  if_ne a b h e = if_false (eqb a b) (ne_eqb a b h) e

  -- "mod has 1" as the code tests it
  pub if_odd : (m : ℕ) → m % 2 ≡ 1 → z ≡ x → z ≡ pick (has m 1) x y
  if_odd m h e = if_true (has m 1) (eq-eqb (m / 1 % 2) 1 (omega arith)) e

  pub if_even : (m : ℕ) → (m % 2 ≡ 1 → ⊥) → z ≡ y → z ≡ pick (has m 1) x y
  if_even m h e = if_false (has m 1) (ne_eqb (m / 1 % 2) 1 (λ k. h (omega arith))) e

pub has_one : (m : ℕ) → has m 1 ≡ eqb (m % 2) 1
has_one m = ap (λ (k : ℕ). eqb (k % 2) 1) (div-one m)

pub ruleset cases = (if_lt, if_ge, if_le, if_gt, if_eq, if_ne, if_odd, if_even, if_true, if_false)

-- A truth value cast to a number, and bounds on what a pick picks.
pub byte_is : (t : Bool) → bool_byte t ≡ flag_of t
unfolding pick flag_of
byte_is true = refl
byte_is false = refl

pub byte_small : (t : Bool) → bool_byte t ≤ 1
byte_small true = omega arith
byte_small false = omega arith

pub pick_le : (t : Bool) (x y n : ℕ) → x ≤ n → y ≤ n → pick t x y ≤ n
unfolding pick
pick_le true x y n hx hy = hx
pick_le false x y n hx hy = hy

pub pick_lt : (t : Bool) (x y n : ℕ) → x < n → y < n → pick t x y < n
unfolding pick
pick_lt true x y n hx hy = hx
pick_lt false x y n hx hy = hy

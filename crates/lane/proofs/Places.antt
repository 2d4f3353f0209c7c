-- Where a cell of Dst lies: lane L's two cells at address a are at 64 times (a div 4), plus 2L, and the next. Assumes nothing.
use Rattle.std.proofs.Common.{◌≡◌, ℕ, ◌+◌, ◌*◌, ◌/◌, ◌%◌, ◌<◌, Bool, true, false, eqb, sym, refl, ap, ◌∙◌, arith, eqb-true}
use borrow.Author.Tests.{eqb-false}
use Rattle.lane.specs.Words.{pick, flag_of}
use Rattle.lane.specs.Load.{place_of, owner_of}

pub flag_true : flag_of true ≡ 1
unfolding flag_of pick
flag_true = refl

pub flag_false : flag_of false ≡ 0
unfolding flag_of pick
flag_false = refl

flag_small : (t : Bool) → flag_of t < 2
flag_small true = omega (arith, flag_true)
flag_small false = omega (arith, flag_false)

-- "row times 16 plus column", worked out
pub place_is : (a L : ℕ) (odd : Bool) → place_of a L odd ≡ 64 * (a / 4) + 2 * L + flag_of odd
unfolding place_of
place_is a L odd = omega arith

pub even_place : (a L : ℕ) → 64 * (a / 4) + 2 * L ≡ place_of a L false
even_place a L = by (64 * (a / 4)) (place_of a L false) (flag_of false) (place_is a L false) flag_false
  where
    by : (f p z : ℕ) → p ≡ f + 2 * L + z → z ≡ 0 → f + 2 * L ≡ p
    by f p z e q = omega arith

pub odd_place : (a L : ℕ) → 64 * (a / 4) + 2 * L + 1 ≡ place_of a L true
odd_place a L = sym (place_is a L true ∙ ap (λ (f : ℕ). 64 * (a / 4) + 2 * L + f) flag_true)

-- The law of a lane's cell: the address meets it; the lane is its owner, so that two lanes never meet in a cell; it lies in the two Dst columns of the lane's
-- own column; it is the even or the odd one; and Dst has it.
pub record Lies (a L : ℕ) (odd : Bool) : Type 0 where
  pub met : place_of a L odd / 16 / 4 ≡ a / 4
  pub owner : owner_of (place_of a L odd) ≡ L
  pub column : place_of a L odd % 16 / 2 ≡ L % 8
  pub parity : place_of a L odd % 2 ≡ flag_of odd
  pub within : a < 1024 → place_of a L odd < 16384

pub lies : (a L : ℕ) (odd : Bool) → L < 32 → Lies a L odd
lies a L odd h =
    record {
      met = omega (arith, place_is a L odd, flag_small odd);
      owner = omega (arith, place_is a L odd, flag_small odd);
      column = omega (arith, place_is a L odd, flag_small odd);
      parity = omega (arith, place_is a L odd, flag_small odd);
      within = λ k. omega (arith, place_is a L odd, flag_small odd);
    }

pub never_meet : (a b L M : ℕ) (odd other : Bool) → L < 32 → M < 32 → place_of a L odd ≡ place_of b M other → L ≡ M
never_meet a b L M odd other h k e = sym (lies a L odd h).owner ∙ ap (λ (p : ℕ). owner_of p) e ∙ (lies b M other k).owner

-- and a cell that the address meets is the one that its owner has there
pub owned : (a p : ℕ) → p / 16 / 4 ≡ a / 4 → place_of a (owner_of p) (eqb (p % 2) 1) ≡ p
owned a p h = go (eqb (p % 2) 1) refl
  where
    go : (t : Bool) → eqb (p % 2) 1 ≡ t → place_of a (owner_of p) t ≡ p
    go true e = let q = eqb-true (p % 2) 1 e in omega (arith, place_is a (owner_of p) true, flag_true)
    go false e = let q = eqb-false (p % 2) 1 e in omega (arith, place_is a (owner_of p) false, flag_false)

-- Op names: no name begins another, so that the name that was written is the one that is read. Assumes nothing.
use mathlib.Core.Path.{◌≡◌, refl, sym, ap, ◌∙◌}
use Prim.Native.Nat.{ℕ, zero, suc, ◌<◌, ◌≤◌}
use native.Mathlib.Nat.{le_of_suc-le-suc, eq-or-lt_of_le, not-suc-le-zero}
use native.Mathlib.Omega.{arith}
use mathlib.Core.Bool.{Bool, true, false, ◌&&◌, ◌||◌, not}
use mathlib.Core.List.{List, [], ◌∷◌, ◌++◌}
use mathlib.Core.Logic.{◌⊎◌, inl, inr}
use native.Mathlib.Decide.{dec_lt}
use lib.ListN.{length, drop, get_or-eq_default}
use lib.Dec.{eqb, ltb}
use borrow.Author.Tests.{eq-eqb, ne_eqb, eqb-true, ltb-true}
use Rattle.lane.specs.Words.{pick}
use Rattle.lane.proofs.Cases.{pick_true, pick_false}
use Rattle.listing.specs.Forms.{spell, bytes, names, name_of, begins, op_of}
use Rattle.listing.proofs.Digits.{both, both_true}

pub begins_self : (p r : List ℕ) → begins p (p ++ r) ≡ true
unfolding begins
begins_self [] r = refl
begins_self (a ∷ p) r = both_true _ _ (eq-eqb a a refl) (begins_self p r)

pub begins_split : (p t : List ℕ) → begins p t ≡ true → t ≡ p ++ drop (length p) t
unfolding begins
begins_split [] t h = refl
begins_split (a ∷ p) [] h = absurd (no h)
  where
    no : false ≡ true → ⊥
    no e = let z : ◌≡◌ {A = ℕ} 0 1 = cc in omega arith
begins_split (a ∷ p) (b ∷ t) h =
    let q = both (eqb b a) (begins p t) h in
    cc (eqb-true b a q.0, begins_split p t q.1)

-- two names that differ where both have a byte
unfoldable pub clash : List ℕ → List ℕ → Bool
clash [] q = false
clash (a ∷ p) [] = false
clash (a ∷ p) (b ∷ q) = not (eqb b a) || clash p q

clash_begins : (p q r : List ℕ) → clash p q ≡ true → begins p (q ++ r) ≡ false
unfolding begins clash
clash_begins [] q r h = sym h
clash_begins (a ∷ p) [] r h = absurd (no h)
  where
    no : false ≡ true → ⊥
    no e = let z : ◌≡◌ {A = ℕ} 0 1 = cc in omega arith
clash_begins (a ∷ p) (b ∷ q) r h = go (eqb b a) h (clash_begins p q r)
  where
    go : (t : Bool) → (not t || clash p q) ≡ true → (clash p q ≡ true → begins p (q ++ r) ≡ false) → (t && begins p (q ++ r)) ≡ false
    go true k g = g k
    go false k g = refl

-- what a test says of every number below n
unfoldable pub every : ℕ → (ℕ → Bool) → Bool
every zero f = true
every (suc n) f = every n f && f n

pub every_at : (n : ℕ) (f : ℕ → Bool) (k : ℕ) → k < n → every n f ≡ true → f k ≡ true
unfolding every
every_at zero f k h e = absurd (not-suc-le-zero h)
every_at (suc n) f k h e = go (eq-or-lt_of_le (le_of_suc-le-suc h)) (λ l. every_at n f k l (both (every n f) (f n) e).0)
  where
    go : (k ≡ n) ⊎ (k < n) → (k < n → f k ≡ true) → f k ≡ true
    go (inl q) r = ap f q ∙ (both (every n f) (f n) e).1
    go (inr l) r = r l

-- no name begins with an earlier one, but for op 0's, which is none
apart : every 17 (λ j. every j (λ k. eqb k 0 || clash (name_of j) (name_of k))) ≡ true
unfolding names name_of bytes spell every clash begins
apart = refl

apart_at : (j k : ℕ) → j < 17 → k < j → 0 < k → clash (name_of j) (name_of k) ≡ true
apart_at j zero h l z = absurd (not-suc-le-zero z)
apart_at j (suc k) h l z =
    rw (ne_eqb (suc k) 0 (λ e. omega arith)) at
    (every_at j (λ m. eqb m 0 || clash (name_of j) (name_of m)) (suc k) l (every_at 17 _ j h apart))

pub op_of_name : (n op : ℕ) (r : List ℕ) → 0 < op → op ≤ n → n ≤ 16 → op_of n (name_of op ++ r) ≡ op
unfolding op_of
op_of_name zero op r z h k = omega arith
op_of_name (suc n) op r z h k = go (eq-or-lt_of_le h) (op_of_name n op r z)
  where
    go : (op ≡ suc n) ⊎ (op < suc n) → (op ≤ n → n ≤ 16 → op_of n (name_of op ++ r) ≡ op) → op_of (suc n) (name_of op ++ r) ≡ op
    go (inl e) g =
        pick_true (begins (name_of (suc n)) (name_of op ++ r)) (suc n) (op_of n (name_of op ++ r))
        (rw e (begins_self (name_of (suc n)) r))
        ∙ sym e
    go (inr l) g =
        pick_false (begins (name_of (suc n)) (name_of op ++ r)) (suc n) (op_of n (name_of op ++ r))
        (clash_begins (name_of (suc n)) (name_of op) r (apart_at (suc n) op (omega arith) l z))
        ∙ g (omega arith) (omega arith)

pub op_of_begins : (n : ℕ) (t : List ℕ) → 0 < op_of n t → (begins (name_of (op_of n t)) t ≡ true) × (op_of n t ≤ n)
unfolding op_of pick
op_of_begins zero t h = absurd (not-suc-le-zero h)
op_of_begins (suc n) t h = go (begins (name_of (suc n)) t) refl (op_of_begins n t) h
  where
    go : (b : Bool) → begins (name_of (suc n)) t ≡ b
        → (0 < op_of n t → (begins (name_of (op_of n t)) t ≡ true) × (op_of n t ≤ n))
        → 0 < pick b (suc n) (op_of n t)
        → (begins (name_of (pick b (suc n) (op_of n t))) t ≡ true) × (pick b (suc n) (op_of n t) ≤ suc n)
    go true e g k = (e, omega arith)
    go false e g k = let q = g k in (q.0, omega arith)

-- no name stands there
pub op_of_none : (n : ℕ) (t : List ℕ) → ((op : ℕ) → 0 < op → op ≤ n → begins (name_of op) t ≡ false) → op_of n t ≡ 0
unfolding op_of
op_of_none zero t h = refl
op_of_none (suc n) t h =
    pick_false (begins (name_of (suc n)) t) (suc n) (op_of n t) (h (suc n) (omega arith) (omega arith))
    ∙ op_of_none n t (λ op z l. h op z (omega arith))

-- ---- how long names are

lengths_small : every 17 (λ op. ltb (length (name_of op)) 8) ≡ true
unfolding names name_of bytes spell every
lengths_small = refl

-- a number past 16 has no name
pub no_name : (op : ℕ) → 17 ≤ op → name_of op ≡ []
unfolding names name_of
no_name op h = get_or-eq_default names [] {n = op} h

pub length_names : (op : ℕ) → length (name_of op) ≤ 7
length_names op = go (dec_lt op 17)
  where
    go : Dec (op < 17) → length (name_of op) ≤ 7
    go (yes h) = omega (arith, ltb-true _ _ (every_at 17 _ op h lengths_small))
    go (no h) = rw (no_name op (omega arith)) (omega arith)

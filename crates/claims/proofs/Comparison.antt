-- The comparison's three answers: exactly one holds, they mirror, and equal is for equal words. Assumes nothing.
use mathlib.Core.Path.{◌≡◌, refl, sym, ap, ◌∙◌}
use Prim.Native.Nat.{ℕ, ◌^◌, ◌<◌, ◌≤◌}
use native.Mathlib.Nat.{lt_of_not-le}
use native.Mathlib.Decide.{dec_le, ℕ_discrete}
use native.Mathlib.Omega.{arith}
use mathlib.Core.Bool.{Bool, true, false, false≢true}
use lib.IntN.{ℤ, pos, negsuc}
use lib.Signed.{lt_z}
use lib.Dec.{eqb, ltb}
use borrow.Author.Tests.{lt-ltb, le-ltb, eq-eqb, ne_eqb, eqb-true}
use Rattle.lane.specs.declared.Order.{Order}
use Rattle.lane.specs.declared.Order.TheVariants.{Below, Equal, Above}
use Rattle.lane.specs.Words.{pick}
use Rattle.lane.specs.Swap.{rank, ranks_below, eq_z, ranks_equal, compared, is_equal}
use Rattle.lane.proofs.Ranks.{eq_z_eq, eq_eq_z, not_both, tied_words}
use Rattle.claims.specs.Claims.{Says, mirrored}

-- ---- exactly one

pub holds : (c d : ℕ) → Says (compared c d) c d
unfolding compared Says ranks_equal pick
holds c d = by (ranks_below c d) (eq_z (rank c) (rank d)) refl refl
  where
    by : (s t : Bool) → ranks_below c d ≡ s → eq_z (rank c) (rank d) ≡ t → Says (pick s Below (pick t Equal Above)) c d
    by true t p q = p
    by false true p q = eq_z_eq (rank c) (rank d) q
    by false false p q = (λ h. false≢true (sym p ∙ h), λ e. false≢true (sym q ∙ eq_eq_z (rank c) (rank d) e))

pub alone : (c d : ℕ) (o : Order) → Says o c d → o ≡ compared c d
unfolding compared Says ranks_equal pick
alone c d Below h = ap (λ (s : Bool). pick s Below (pick (ranks_equal c d) Equal Above)) (sym h)
alone c d Equal h = by (ranks_below c d) refl
  where
    by : (s : Bool) → ranks_below c d ≡ s → Equal ≡ pick s Below (pick (eq_z (rank c) (rank d)) Equal Above)
    by true p = absurd (not_both c d p (eq_eq_z (rank c) (rank d) h))
    by false p = ap (λ (t : Bool). pick t Equal Above) (sym (eq_eq_z (rank c) (rank d) h))
alone c d Above h = by (ranks_below c d) (eq_z (rank c) (rank d)) refl refl
  where
    by : (s t : Bool) → ranks_below c d ≡ s → eq_z (rank c) (rank d) ≡ t → Above ≡ pick s Below (pick t Equal Above)
    by true t p q = absurd (h.0 p)
    by false true p q = absurd (h.1 (eq_z_eq (rank c) (rank d) q))
    by false false p q = refl

-- ---- the operands swapped

-- the same answers, of two numbers
abbrev numbers : ℕ → ℕ → Order
numbers a b = pick (ltb a b) Below (pick (eqb a b) Equal Above)

mirror_numbers : (a b : ℕ) → numbers b a ≡ mirrored (numbers a b)
unfolding pick
mirror_numbers a b =
    elim (ℕ_discrete a b) [ yes e ↦ same e | no n ↦ elim (dec_le b a) [ yes l ↦ over n l | no l ↦ under (lt_of_not-le l) ] ]
  where
    same : a ≡ b → numbers b a ≡ mirrored (numbers a b)
    same e = simp (le-ltb a b (omega arith), le-ltb b a (omega arith), eq-eqb a b e, eq-eqb b a (sym e))

    over : (a ≡ b → ⊥) → b ≤ a → numbers b a ≡ mirrored (numbers a b)
    over n l = simp (le-ltb a b l, lt-ltb b a (omega arith), ne_eqb a b n)

    under : a < b → numbers b a ≡ mirrored (numbers a b)
    under l = simp (lt-ltb a b l, le-ltb b a (omega arith), ne_eqb b a (λ e. omega arith))

eqb_swap : (a b : ℕ) → eqb a b ≡ eqb b a
eqb_swap a b =
    elim (ℕ_discrete a b) [ yes e ↦ eq-eqb a b e ∙ sym (eq-eqb b a (sym e)) | no n ↦ ne_eqb a b n ∙ sym (ne_eqb b a (λ e. n (sym e))) ]

mirror_ranks : (a b : ℤ) → pick (lt_z b a) Below (pick (eq_z b a) Equal Above) ≡ mirrored (pick (lt_z a b) Below (pick (eq_z a b) Equal Above))
unfolding pick
mirror_ranks (pos a) (pos b) = mirror_numbers a b
mirror_ranks (pos a) (negsuc b) = refl
mirror_ranks (negsuc a) (pos b) = refl
mirror_ranks (negsuc a) (negsuc b) =
    ap (λ (t : Bool). pick (ltb a b) Below (pick t Equal Above)) (eqb_swap b a) ∙ mirror_numbers b a
    ∙ ap (λ (t : Bool). mirrored (pick (ltb b a) Below (pick t Equal Above))) (eqb_swap b a)

pub mirror : (c d : ℕ) → compared d c ≡ mirrored (compared c d)
unfolding compared ranks_below ranks_equal
mirror c d = mirror_ranks (rank c) (rank d)

-- ---- equal words

is_equal_lem : (o : Order) → is_equal o ≡ true → o ≡ Equal
is_equal_lem Below h = absurd (false≢true h)
is_equal_lem Equal h = refl
is_equal_lem Above h = absurd (false≢true h)

pub words : (c d : ℕ) → c < 2 ^ 32 → d < 2 ^ 32 → (compared c d ≡ Equal → c ≡ d) × (c ≡ d → compared c d ≡ Equal)
words c d fc fd = (
  λ e. eqb-true c d (sym (tied_words c d fc fd) ∙ ap is_equal e),
  λ e. is_equal_lem (compared c d) (tied_words c d fc fd ∙ eq-eqb c d e),
)

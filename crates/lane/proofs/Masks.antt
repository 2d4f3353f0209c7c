-- SWAP's table of masks, as it is lent. Assumes nothing.
use Rattle.std.proofs.Common.{◌≡◌, ℕ, Bool, true, false, ltb, List, get_or, sym, refl, ap, ◌∙◌, ltb-false}
use lib.ListN.{get_or-eq_default}
use Rattle.lane.specs.Words.{pick}
use Rattle.lane.specs.Swap.{masks, mask_of}

-- past its sixteen there is none
pub mask_is : (table : List ℕ) (m : ℕ) → table ≡ masks → pick (ltb m 16) (get_or table m 0) 0 ≡ mask_of m
unfolding pick
mask_is table m e = ap (λ (x : List ℕ). pick (ltb m 16) (get_or x m 0) 0) e ∙ go (ltb m 16) refl
  where
    go : (t : Bool) → ltb m 16 ≡ t → pick t (get_or masks m 0) 0 ≡ get_or masks m 0
    go true h = refl
    go false h = sym (get_or-eq_default masks 0 (ltb-false m 16 h))

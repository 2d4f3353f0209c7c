-- What the stores under a test come to, for one lane and for all. Assumes nothing.
use Rattle.std.proofs.Common.{◌≡◌, ℕ, ◌<◌, ◌≤◌, Bool, ◌&&◌, List, [], ◌∷◌, sym, ap, ◌∙◌, le-ltb, lt-ltb}
use Rattle.lane.specs.Words.{pick, Lane, Stores, enabled}
use Rattle.lane.specs.Compute.{computes, word_only, word_and_flag}
use Rattle.lane.proofs.Cases.{pick_false}
use Rattle.runner.specs.PrivateRows.{storing_in}
use Rattle.runner.proofs.Lanes.{in_then, pick_append}

computes_is : (vd : ℕ) (own : Lane) (t : Bool) → vd < 8 → t ≡ enabled own → computes vd own ≡ t
computes_is vd own t h e = ap (λ (b : Bool). b && enabled own) (lt-ltb vd 8 h) ∙ sym e

-- a word for vd, in a lane whose test is t
pub word_in : (image x : List ℕ) (n vd w : ℕ) (t : Bool) (own : Lane) → vd < 8 → t ≡ enabled own
    → x ≡ storing_in image n (pick t ((vd, w) ∷ []) [])
    → x ≡ storing_in image n (word_only vd w own)
unfolding word_only
word_in image x n vd w t own h e p =
    p ∙ ap (λ (b : Bool). storing_in image n (pick b ((vd, w) ∷ []) [])) (sym (computes_is vd own t h e))

-- a word and a flag
pub word_and_flag_in : (image x y : List ℕ) (n vd w f : ℕ) (t : Bool) (own : Lane) → vd < 8 → t ≡ enabled own
    → x ≡ storing_in image n (pick t ((vd, w) ∷ []) [])
    → y ≡ storing_in x n (pick t ((13, f) ∷ []) [])
    → y ≡ storing_in image n (word_and_flag vd w f own)
unfolding word_and_flag
word_and_flag_in image x y n vd w f t own h e p q =
    in_then image x y n (pick t ((vd, w) ∷ []) []) (pick t ((13, f) ∷ []) []) p q
    ∙ ap (λ (a : Stores). storing_in image n a) (pick_append t ((vd, w) ∷ []) ((13, f) ∷ []))
    ∙ ap (λ (b : Bool). storing_in image n (pick b ((vd, w) ∷ (13, f) ∷ []) [])) (sym (computes_is vd own t h e))

-- an operation that stores nothing, vd being 8 or more
pub no_word : (vd w : ℕ) (own : Lane) → 8 ≤ vd → word_only vd w own ≡ []
unfolding word_only
no_word vd w own h = pick_false (computes vd own) ((vd, w) ∷ []) [] (ap (λ (b : Bool). b && enabled own) (le-ltb vd 8 h))

pub no_word_and_flag : (vd w f : ℕ) (own : Lane) → 8 ≤ vd → word_and_flag vd w f own ≡ []
unfolding word_and_flag
no_word_and_flag vd w f own h =
    pick_false (computes vd own) ((vd, w) ∷ (13, f) ∷ []) [] (ap (λ (b : Bool). b && enabled own) (le-ltb vd 8 h))

use Prim.Native.Nat.{ℕ}
use mathlib.Core.Path.{◌≡◌, refl, sym, ap, ◌∙◌}
use mathlib.Core.List.{List, [], ◌∷◌, ◌++◌, append_assoc}
use lib.ListN.{length, get_or, drop, length-append, length-drop, drop_of_length-le}
use lib.Seq.{take-append_seam, drop-append_seam}
use borrow.Rule.Slice.PartMut.{put_mid, post_of}
use native.Mathlib.Omega.{arith}
use Rattle.std.proofs.lemmas.List.{append-nil}
use Rattle.lane.specs.Words.{build}
use Rattle.lane.proofs.Stores.{build_own}
use Rattle.runner.specs.declared.Outcome.{Outcome}
use Rattle.runner.proofs.Steps.{eight_counts}
use Rattle.listing.specs.Listing.{settings_of}
use Rattle.host.specs.Words.{outcome_words}
use Rattle.host.proofs.replay_run.Goals as goal

-- a part put after others, in front of what it covers
put_after : (a n : ℕ) (front rest part : List ℕ) → length front ≡ a → put_mid a n (front ++ rest) part ≡ front ++ (part ++ drop n rest)
put_after a n front rest part e = rw (← e, take-append_seam front rest, drop-append_seam front rest)

-- eight words are those of a column's counts where each is
eight_words : (xs ys : List ℕ) → length xs ≡ 8 → length ys ≡ 8
    → get_or xs 0 0 ≡ get_or ys 0 0
    → get_or xs 1 0 ≡ get_or ys 1 0
    → get_or xs 2 0 ≡ get_or ys 2 0
    → get_or xs 3 0 ≡ get_or ys 3 0
    → get_or xs 4 0 ≡ get_or ys 4 0
    → get_or xs 5 0 ≡ get_or ys 5 0
    → get_or xs 6 0 ≡ get_or ys 6 0
    → get_or xs 7 0 ≡ get_or ys 7 0
    → xs ≡ ys
unfolding build
eight_words xs ys m n a b c d e f g h = sym (build_own 8 xs m) ∙ cc (a, b, c, d, e, f, g, h) ∙ build_own 8 ys n

-- a run's twenty words, put part by part over those that were lent
laid_out :
    (o p : Outcome) (front ties stores before : List ℕ)
    → front ≡ o.answer ∷ (o.steps ∷ (o.place ∷ (o.cursor ∷ [])))
    → ties ≡ o.ties
    → stores ≡ o.stores
    → o ≡ p
    → (length p.ties ≡ 8) × (length p.stores ≡ 8)
    → length before ≡ 20
    → put_mid 12 8 (put_mid 4 8 (front ++ post_of 0 4 before) ties) stores ≡ outcome_words p
unfolding outcome_words
laid_out o p front ties stores before e f g h eight k =
    let ties_fit : length ties ≡ 8 = ap length f ∙ (ap (λ (x : Outcome). length x.ties) h ∙ eight.0) in
    let at_stores : length (front ++ ties) ≡ 12 = omega (arith, length-append front ties, ap length e) in
    let nothing : drop 8 (drop 8 (drop 4 before)) ≡ [] = drop_of_length-le (drop 8 (drop 4 before)) {i = 8} (omega (arith, length-drop 8 (drop 4 before), length-drop 4 before)) in
    rw (put_after 4 8 front (drop 4 before) ties (ap length e), ← append_assoc front ties (drop 8 (drop 4 before)), put_after 12 8 (front ++ ties) (drop 8 (drop 4 before)) stores at_stores, nothing, append-nil stores, append_assoc front ties stores, e, f, g, h)

pub returns-clause-outcome_after : goal.returns-clause-outcome_after
unfolding settings_of
returns-clause-outcome_after c =
    let a = c.args in
    laid_out c.run-o.result _ _ _ _ a.outcome.now
    c.copy_from_slice.ensures.after
    (c.copy_from_slice-2.ensures.after ∙ eight_words _ _ (omega arith) (omega arith) refl refl refl refl refl refl refl refl)
    (c.copy_from_slice-3.ensures.after ∙ eight_words _ _ (omega arith) (omega arith) refl refl refl refl refl refl refl refl)
    (rw (← c.from.ensures) c.run-o.ensures.outcome_is) (eight_counts _ a.image.now a.dst.now a.list.now) (omega arith)

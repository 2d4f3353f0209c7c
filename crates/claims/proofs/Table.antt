-- The table of formats, row by row: what holds of each row holds of every format. Assumes nothing.
use mathlib.Core.Path.{◌≡◌, refl, sym, ap, ◌∙◌, subst}
use Prim.Native.Nat.{ℕ, suc}
use native.Mathlib.Omega.{arith}
use mathlib.Core.Bool.{Bool, true, false, ◌&&◌}
use mathlib.Core.List.{List, [], ◌∷◌, ◌++◌}
use mathlib.Core.Logic.{inl, inr}
use lib.Dec.{eqb}
use borrow.Author.Tests.{eqb-true, ne_eqb}
use Rattle.lane.specs.Words.{pick}
use Rattle.listing.specs.Forms.{LF, begins, bytes, spell, literal, render, render_item, takes}
use Rattle.listing.specs.Listing.{Format, old, two, formats, format_among, format_of, header_with, head}
use Rattle.listing.proofs.FormatTable.{Sound, two_sound, old_sound, of_every}
use Rattle.claims.specs.Claims.{Among, first_lines}

pub two_among : Among two formats
unfolding Among
two_among = inl refl

pub old_among : Among old formats
unfolding Among
old_among = inr (inl refl)

pub text_among : (t : List ℕ) → Among (format_of t) formats
text_among = of_every (λ f. Among f formats) two_among old_among

pub of_each : (P : Format → Type 0) → P two → P old → (f : Format) → Among f formats → P f
unfolding Among
of_each P a b f (inl e) = subst P (sym e) a
of_each P a b f (inr (inl e)) = subst P (sym e) b
of_each P a b f (inr (inr z)) = absurd z

-- ---- a text that a format's head begins is in that format

pub record Each (f : Format) : Type 0 where
  pub sound : Sound f
  pub own : (ns rest : List ℕ) → format_of (render (head f) ns ++ rest) ≡ f

pub each_sound : (f : Format) → Among f formats → Each f
unfolding format_among begins head header_with render render_item takes literal bytes spell pick
each_sound =
    of_each Each (record { sound = two_sound; own = λ ns rest. refl }) (record { sound = old_sound; own = λ ns rest. refl })

-- ---- a text's format is told by its first line

-- a mark is no more than one line
unfoldable pub OneLine : List ℕ → Type 0
OneLine [] = Unit
OneLine (a ∷ []) = Unit
OneLine (a ∷ b ∷ p) = (a ≡ LF → ⊥) × OneLine (b ∷ p)

begins_line : (p : List ℕ) → OneLine p → (k : ℕ) (t : List ℕ) → begins p (first_lines (suc k) t) ≡ begins p t
unfolding OneLine begins first_lines pick
begins_line [] h k t = refl
begins_line (a ∷ p) h k [] = refl
begins_line (a ∷ []) h k (b ∷ t) = refl
begins_line (a ∷ c ∷ p) h k (b ∷ t) = go (eqb b a) refl (begins_line (c ∷ p) h.1 k t)
  where
    go : (x : Bool) → eqb b a ≡ x → begins (c ∷ p) (first_lines (suc k) t) ≡ begins (c ∷ p) t
        → (x && begins (c ∷ p) (pick (eqb b LF) (first_lines k t) (first_lines (suc k) t))) ≡ (x && begins (c ∷ p) t)
    go true e r = rw (ne_eqb b LF (λ z. h.0 (sym (eqb-true b a e) ∙ z))) r
    go false e r = refl

marks_one_line : OneLine two.mark
unfolding OneLine bytes spell
marks_one_line = (λ e. omega arith, (λ e. omega arith, (λ e. omega arith, (λ e. omega arith, (λ e. omega arith, (λ e. omega arith, (λ e. omega arith, (λ e. omega arith, tt))))))))

pub same_format : (k : ℕ) (t t' : List ℕ) → first_lines (suc k) t ≡ first_lines (suc k) t' → format_of t' ≡ format_of t
unfolding format_among begins
same_format k t t' e =
    let m : begins two.mark t' ≡ begins two.mark t = sym (begins_line two.mark marks_one_line k t') ∙ ap (begins two.mark) (sym e) ∙ begins_line two.mark marks_one_line k t in
    rw m refl

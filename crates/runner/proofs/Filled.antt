-- Rows: a local array of 32 words that a loop fills. Assumes nothing.
use Rattle.std.proofs.Common.{zero, suc, refl, ◌≡◌, ℕ, ◌+◌, ◌%◌, ◌<◌, ◌≤◌, List, length, get_or, set, sym, ap, ◌∙◌, arith, length-set, get_or-set_other, get_or-set_same, ext_get_or}
use native.Mathlib.Decide.{ℕ_discrete}
use Rattle.std.specs.Array.{IsFromFnResult, IsFromFnResultFrom}
use denote.Param.Members.{Mut, MutLaws, Called, step_gives}
use mathlib.Core.Path.{subst}
use Rattle.lane.specs.Words.{build}
use Rattle.lane.proofs.Stores.{length_build, get_d_build, build_same}
use Rattle.runner.specs.PrivateRows.{row}

-- the first n words are f's
pub record Filled (f : ℕ → ℕ) (n : ℕ) (words : List ℕ) : Type 0 where
  pub within : n ≤ 32
  pub long : length words ≡ 32
  pub made : (k : ℕ) → k < n → get_or words k 0 ≡ f k

pub none_below : (k : ℕ) → k < 0 → ⊥
none_below k l = omega arith

pub fill_start : (f : ℕ → ℕ) (words : List ℕ) → length words ≡ 32 → Filled f 0 words
fill_start f words e = record { within = omega arith; long = e; made = λ k l. absurd (none_below k l) }

pub fill_more : (f : ℕ → ℕ) (n : ℕ) (words : List ℕ) (v : ℕ) → n < 32 → Filled f n words → v ≡ f n → Filled f (n + 1) (set words n v)
fill_more f n words v l h e =
    record { within = omega arith; long = length-set words n v ∙ h.long; made = λ k m. at k m (ℕ_discrete k n) }
  where
    at : (k : ℕ) → k < n + 1 → Dec (k ≡ n) → get_or (set words n v) k 0 ≡ f k
    at k m (yes q) =
        ap (λ (j : ℕ). get_or (set words n v) j 0) q ∙ get_or-set_same words n v 0 (omega (arith, h.long)) ∙ e ∙ ap f (sym q)
    at k m (no q) = get_or-set_other words n k v 0 q ∙ h.made k (omega arith)

pub fill_end : (f : ℕ → ℕ) (n : ℕ) (words : List ℕ) → 32 ≤ n → Filled f n words → words ≡ row f
unfolding row
fill_end f n words l h =
    ext_get_or 0 words (build 32 f) (h.long ∙ sym (length_build 32 f))
    (λ k m. h.made k (omega (arith, h.long)) ∙ sym (get_d_build 32 f k (omega (arith, h.long))))

pub row_at : (f : ℕ → ℕ) (L : ℕ) → L < 32 → get_or (row f) L 0 ≡ f L
unfolding row
row_at f L h = get_d_build 32 f L h

pub row_same : (f g : ℕ → ℕ) → ((L : ℕ) → L < 32 → f L ≡ g L) → row f ≡ row g
unfolding row
row_same f g h = build_same 32 f g h

-- an operand row, read at a lane
pub operand : (words : List ℕ) (f : ℕ → ℕ) → words ≡ row f → (L : ℕ) → L < 32 → get_or words L 0 ≡ f L
operand words f e L h = ap (λ (w : List ℕ). get_or w L 0) e ∙ row_at f L h

-- ---- rows one after the other, or the four rows of a column, that a loop fills at several places a turn

-- after n turns: of the words up to `len`, those whose place leaves less than n when divided by m are g's
pub record Spread (g : ℕ → ℕ) (m len n : ℕ) (words : List ℕ) : Type 0 where
  pub within : n ≤ m
  pub long : length words ≡ len
  pub made : (p : ℕ) → p < len → p % m < n → get_or words p 0 ≡ g p

pub spread_start : (g : ℕ → ℕ) (m len : ℕ) (words : List ℕ) → length words ≡ len → Spread g m len 0 words
spread_start g m len words e = record { within = omega arith; long = e; made = λ p l h. absurd (none_below (p % m) h) }

-- one word put, and the others as they were
pub put_holds : (g : ℕ → ℕ) (words : List ℕ) (s v p : ℕ) → s < length words → v ≡ g s → ((p ≡ s → ⊥) → get_or words p 0 ≡ g p) → get_or (set words s v) p 0 ≡ g p
put_holds g words s v p l e h = go (ℕ_discrete p s)
  where
    go : Dec (p ≡ s) → get_or (set words s v) p 0 ≡ g p
    go (yes q) = ap (λ (k : ℕ). get_or (set words s v) k 0) q ∙ get_or-set_same words s v 0 l ∙ e ∙ ap g (sym q)
    go (no q) = get_or-set_other words s p v 0 q ∙ h q

pub spread_end : (g : ℕ → ℕ) (m len n : ℕ) (words : List ℕ) → ((p : ℕ) → p < len → p % m < n) → Spread g m len n words → words ≡ build len g
spread_end g m len n words all h =
    ext_get_or 0 words (build len g) (h.long ∙ sym (length_build len g))
    (λ k l. at k (omega (arith, h.long)))
  where
    at : (k : ℕ) → k < len → get_or words k 0 ≡ get_or (build len g) k 0
    at k l = h.made k l (all k l) ∙ sym (get_d_build len g k l)

-- four rows of 32
pub rows_more : (g : ℕ → ℕ) (n : ℕ) (words : List ℕ) (a b c d : ℕ) → n < 32 → Spread g 32 128 n words
    → a ≡ g n → b ≡ g (32 + n) → c ≡ g (64 + n) → d ≡ g (96 + n)
    → Spread g 32 128 (n + 1) (set (set (set (set words n a) (32 + n) b) (64 + n) c) (96 + n) d)
rows_more g n words a b c d l h ea eb ec ed =
    record { within = omega arith; long = simp length-set h.long; made = at }
  where
    at : (p : ℕ) → p < 128 → p % 32 < n + 1 → get_or (set (set (set (set words n a) (32 + n) b) (64 + n) c) (96 + n) d) p 0 ≡ g p
    at p k r =
        put_holds g (set (set (set words n a) (32 + n) b) (64 + n) c) (96 + n) d p (simp length-set (omega (arith, h.long))) ed
        (λ nd.
        put_holds g (set (set words n a) (32 + n) b) (64 + n) c p (simp length-set (omega (arith, h.long))) ec
        (λ nc.
        put_holds g (set words n a) (32 + n) b p (simp length-set (omega (arith, h.long))) eb
        (λ nb. put_holds g words n a p (omega (arith, h.long)) ea (λ na. h.made p k (omega arith)))))

-- the four rows of eight columns
pub columns_more : (g : ℕ → ℕ) (n : ℕ) (words : List ℕ) (v : ℕ) → n < 8 → Spread g 8 32 n words
    → v ≡ g n → v ≡ g (8 + n) → v ≡ g (16 + n) → v ≡ g (24 + n)
    → Spread g 8 32 (n + 1) (set (set (set (set words n v) (8 + n) v) (16 + n) v) (24 + n) v)
columns_more g n words v l h ea eb ec ed =
    record { within = omega arith; long = simp length-set h.long; made = at }
  where
    at : (p : ℕ) → p < 32 → p % 8 < n + 1 → get_or (set (set (set (set words n v) (8 + n) v) (16 + n) v) (24 + n) v) p 0 ≡ g p
    at p k r =
        put_holds g (set (set (set words n v) (8 + n) v) (16 + n) v) (24 + n) v p (simp length-set (omega (arith, h.long))) ed
        (λ nd.
        put_holds g (set (set words n v) (8 + n) v) (16 + n) v p (simp length-set (omega (arith, h.long))) ec
        (λ nc.
        put_holds g (set words n v) (8 + n) v p (simp length-set (omega (arith, h.long))) eb
        (λ nb. put_holds g words n v p (omega (arith, h.long)) ea (λ na. h.made p k (omega arith)))))

-- the words that calls at each number in turn gave, where a call leaves what is called as it is
module _ {F : Type 0} (g : Mut F (ℕ × Unit {0}) ℕ) (law : MutLaws g) (stays : (f : F) (a : ℕ × Unit {0}) (r : ℕ) (f' : F) → Called g f a r f' → f' ≡ f) (f : F) (w : ℕ → ℕ) (words : List ℕ)
    (h : (n v : ℕ) → n < 32 → g.post f (n, tt) v → v ≡ w n) where
  given_from : (n i : ℕ) (p : F) → i + n ≡ 32 → p ≡ f → IsFromFnResultFrom g p words i n → (k : ℕ) → i ≤ k → k < 32 → get_or words k 0 ≡ w k
  given_from zero i p e q t k a b = absurd (omega arith)
  given_from (suc n) i p e q t k a b =
      by (ℕ_discrete k i)
      (λ m. given_from n (i + 1) t.0 (omega arith) (stays p (i, tt) t.1 t.0 t.3 ∙ q) t.4 k m b)
    where
      by : Dec (k ≡ i) → (i + 1 ≤ k → get_or words k 0 ≡ w k) → get_or words k 0 ≡ w k
      by (yes s) later =
          ap (λ (j : ℕ). get_or words j 0) s ∙ t.2.1 0
          ∙ h i t.1 (omega arith) (subst (λ z. g.post z (i, tt) t.1) q (step_gives g p (i, tt) t.1 t.0 law t.3)) ∙ ap w (sym s)
      by (no s) later = later (omega arith)

  pub given_row : IsFromFnResult g f words 32 → words ≡ row w
  given_row r = fill_end w 32 words (omega arith) (record { within = omega arith; long = r.long; made = λ k l. given_from 32 0 f refl refl r.each k (omega arith) l })

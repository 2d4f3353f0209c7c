-- Scans that follow one another. Assumes nothing.
use mathlib.Core.Path.{◌≡◌, refl, sym, ap, ◌∙◌}
use Prim.Native.Nat.{ℕ, ◌+◌}
use native.Mathlib.Nat.{add-zero, zero-add, add_assoc}
use native.Mathlib.Omega.{arith}
use mathlib.Core.List.{List, [], ◌∷◌, ◌++◌, append-nil, append_assoc}
use Rattle.listing.specs.Forms.{Item, Form, Scan, taken, faulty, joined, follow, ends, lines_in, scan, scan_item}

pub joined_none : (s : Scan) → joined [] 0 s ≡ s
unfolding joined
joined_none (taken ns t) = refl
joined_none (faulty k) = ap faulty (zero-add k)

pub joined_joined : (ns ms : List ℕ) (j k : ℕ) (s : Scan) → joined ns j (joined ms k s) ≡ joined (ns ++ ms) (j + k) s
unfolding joined
joined_joined ns ms j k (taken ls t) = ap (λ (l : List ℕ). taken l t) (sym (append_assoc ns ms ls))
joined_joined ns ms j k (faulty i) = ap faulty (sym (add_assoc j k i))

pub joined_end : (ns : List ℕ) (k : ℕ) (t : List ℕ) → joined ns k (taken [] t) ≡ taken ns t
unfolding joined
joined_end ns k t = ap (λ (l : List ℕ). taken l t) (append-nil ns)

pub joined_whole : (ns : List ℕ) (k : ℕ) (ms t : List ℕ) → joined ns k (taken ms t) ≡ taken (ns ++ ms) t
unfolding joined
joined_whole ns k ms t = refl

pub joined_fault : (ns : List ℕ) (k : ℕ) → joined ns k (faulty 0) ≡ faulty k
unfolding joined
joined_fault ns k = ap faulty (add-zero k)

-- an item, and then the rest of its form
pub scan_item_lem : (i : Item) (f : Form) (t ms rest : List ℕ) → scan_item i t ≡ taken ms rest
    → scan (i ∷ f) t ≡ joined ms (ends i) (scan f rest)
unfolding scan follow
scan_item_lem i f t ms rest e = rw e

pub scan_fault : (i : Item) (f : Form) (t : List ℕ) (k : ℕ) → scan_item i t ≡ faulty k → scan (i ∷ f) t ≡ faulty k
unfolding scan follow
scan_fault i f t k e = rw e

follow_joined : (ms : List ℕ) (j k : ℕ) (s : Scan) (g : List ℕ → Scan) → joined ms j (follow k s g) ≡ follow (j + k) (joined ms j s) g
unfolding joined follow
follow_joined ms j k (taken ns t) g = joined_joined ms ns j k (g t)
follow_joined ms j k (faulty i) g = refl

-- a form, and then another
pub scan_append : (f g : Form) (t : List ℕ) → scan (f ++ g) t ≡ follow (lines_in f) (scan f t) (scan g)
unfolding scan follow lines_in
scan_append [] g t = sym (joined_none (scan g t))
scan_append (i ∷ f) g t = go (scan_item i t) (λ u. scan_append f g u)
  where
    go : (s : Scan) → ((u : List ℕ) → scan (f ++ g) u ≡ follow (lines_in f) (scan f u) (scan g))
        → follow (ends i) s (scan (f ++ g)) ≡ follow (ends i + lines_in f) (follow (ends i) s (scan f)) (scan g)
    go (taken ms u) r = ap (joined ms (ends i)) (r u) ∙ follow_joined ms (ends i) (lines_in f) (scan f u) (scan g)
    go (faulty k) r = refl

pub scan_then : (f g : Form) (t ns rest : List ℕ) → scan f t ≡ taken ns rest → scan (f ++ g) t ≡ joined ns (lines_in f) (scan g rest)
unfolding follow
scan_then f g t ns rest e = scan_append f g t ∙ rw e

pub scan_not : (f g : Form) (t : List ℕ) (k : ℕ) → scan f t ≡ faulty k → scan (f ++ g) t ≡ faulty k
unfolding follow
scan_not f g t k e = scan_append f g t ∙ rw e

-- what a joined scan took
pub joined_taken : (ms : List ℕ) (k : ℕ) (s : Scan) (ns t : List ℕ) → joined ms k s ≡ taken ns t
    → (ls : List ℕ) × ((s ≡ taken ls t) × (ns ≡ ms ++ ls))
unfolding joined
joined_taken ms k (taken ls u) ns t e = (ls, (cc, cc))
joined_taken ms k (faulty i) ns t e = absurd (no e)
  where
    no : faulty (k + i) ≡ taken ns t → ⊥
    no q = let z : ◌≡◌ {A = ℕ} 0 1 = cc in omega arith

pub lines_append : (f g : Form) → lines_in (f ++ g) ≡ lines_in f + lines_in g
unfolding lines_in
lines_append [] g = sym (zero-add (lines_in g))
lines_append (i ∷ f) g = ap (λ (k : ℕ). ends i + k) (lines_append f g) ∙ sym (add_assoc (ends i) (lines_in f) (lines_in g))

-- Lines of a text, and the line at which a scan finds a fault: over all forms. Assumes nothing.
use mathlib.Core.Path.{◌≡◌, refl, sym, ap, ◌∙◌, subst}
use Prim.Native.Nat.{ℕ, zero, suc, ◌+◌, ◌-◌, ◌/◌, ◌%◌, ◌<◌}
use native.Mathlib.Nat.{zero-add, add-suc, add_assoc, one-le-pow}
use native.Mathlib.Decide.{dec_lt, ℕ_discrete}
use native.Mathlib.Omega.{arith}
use mathlib.Core.Bool.{Bool, true, false, ◌&&◌, not}
use mathlib.Core.List.{List, [], ◌∷◌, ◌++◌, append_assoc}
use lib.ListN.{length, get_or, drop, length-append}
use lib.Seq.{drop_at, take_all}
use lib.Dec.{eqb}
use borrow.Author.Tests.{eq-eqb, ne_eqb, eqb-false, lt-ltb, le-ltb}
use Rattle.lane.specs.Words.{pick}
use Rattle.lane.proofs.Cases.{pick_true, pick_false}
use Rattle.listing.specs.Forms.{Item, lit, dec, hex, name, Form, LF, glyph, digits, names, name_of, bytes, spell, Scan, taken, faulty, joined, follow, ends, lines_in, scan, scan_item, takes, render, render_item}
use Rattle.claims.specs.Claims.{first_lines}
use Rattle.listing.proofs.Joins.{joined_taken}
use Rattle.claims.proofs.Ends.{ends_one, item_fault}
use Rattle.listing.proofs.Names.{every, every_at, no_name}
use Rattle.listing.proofs.Trips.{Fit, Fits, item_taken, item_back, item_own, fit_own, apart}

-- they stand in front
pub lines_front : (k : ℕ) (t : List ℕ) → (u : List ℕ) × (t ≡ first_lines k t ++ u)
unfolding first_lines pick
lines_front zero t = (t, refl)
lines_front (suc k) [] = ([], refl)
lines_front (suc k) (b ∷ t) = go (eqb b LF) (lines_front k t) (lines_front (suc k) t)
  where
    go : (x : Bool) → (u : List ℕ) × (t ≡ first_lines k t ++ u) → (u : List ℕ) × (t ≡ first_lines (suc k) t ++ u)
        → (u : List ℕ) × (b ∷ t ≡ (b ∷ pick x (first_lines k t) (first_lines (suc k) t)) ++ u)
    go true p q = (p.0, ap (λ (l : List ℕ). b ∷ l) p.1)
    go false p q = (q.0, ap (λ (l : List ℕ). b ∷ l) q.1)

-- ---- no item but LF ends a line

unfoldable pub Plain : List ℕ → Type 0
Plain [] = Unit
Plain (b ∷ t) = (b ≡ LF → ⊥) × Plain t

plain_append : (a b : List ℕ) → Plain a → Plain b → Plain (a ++ b)
unfolding Plain
plain_append [] b p q = q
plain_append (x ∷ a) b p q = (p.0, plain_append a b p.1 q)

plain_glyph : (d : ℕ) → glyph d ≡ LF → ⊥
unfolding glyph
plain_glyph d e = go (dec_lt d 10)
  where
    go : Dec (d < 10) → ⊥
    go (yes l) = let q : d + 48 ≡ 10 = sym (pick_true _ _ _ (lt-ltb d 10 l)) ∙ e in omega arith
    go (no l) = let q : d + 55 ≡ 10 = sym (pick_false _ _ _ (le-ltb d 10 (omega arith))) ∙ e in omega arith

plain_digits : (b w n : ℕ) → Plain (digits b w n)
unfolding digits Plain
plain_digits b zero n = tt
plain_digits b (suc w) n = plain_append (digits b w (n / b)) (glyph (n % b) ∷ []) (plain_digits b w (n / b)) (plain_glyph (n % b), tt)

plainly : List ℕ → Bool
plainly [] = true
plainly (b ∷ t) = not (eqb b LF) && plainly t

plain_of : (t : List ℕ) → plainly t ≡ true → Plain t
unfolding plainly Plain
plain_of [] e = tt
plain_of (b ∷ t) e = go (eqb b LF) refl e (plain_of t)
  where
    go : (x : Bool) → eqb b LF ≡ x → (not x && plainly t) ≡ true → (plainly t ≡ true → Plain t) → (b ≡ LF → ⊥) × Plain t
    go true q d r = absurd (no d)
      where
        no : false ≡ true → ⊥
        no z = let k : ◌≡◌ {A = ℕ} 0 1 = cc in omega arith
    go false q d r = (eqb-false b LF q, r d)

names_plain : every 17 (λ op. plainly (name_of op)) ≡ true
unfolding every plainly names name_of bytes spell
names_plain = refl

plain_name : (op : ℕ) → Plain (name_of op)
unfolding Plain
plain_name op = go (dec_lt op 17)
  where
    go : Dec (op < 17) → Plain (name_of op)
    go (yes h) = plain_of (name_of op) (every_at 17 _ op h names_plain)
    go (no h) = rw (no_name op (omega arith)) tt

lines_plain : (bs x : List ℕ) (k : ℕ) → Plain bs → first_lines (suc k) (bs ++ x) ≡ bs ++ first_lines (suc k) x
unfolding first_lines Plain
lines_plain [] x k p = refl
lines_plain (b ∷ bs) x k p =
    ap (λ (l : List ℕ). b ∷ l) (pick_false _ _ _ (ne_eqb b LF p.0) ∙ lines_plain bs x k p.1)

plain_lines : (bs x : List ℕ) (e j : ℕ) → Plain bs → e ≡ 0 → 0 < e + j → first_lines (e + j) (bs ++ x) ≡ bs ++ first_lines j x
plain_lines bs x e zero p q h = absurd (no h)
  where
    no : 0 < e + 0 → ⊥
    no l = omega arith
plain_lines bs x e (suc j) p q h =
    let k : e + suc j ≡ suc j = omega arith in
    rw k (lines_plain bs x j p)

-- an item's own lines, and then those of the rest
pub lines_item : (i : Item) (n j : ℕ) (x : List ℕ) → 0 < ends i + j
    → first_lines (ends i + j) (render_item i n ++ x) ≡ render_item i n ++ first_lines j x
unfolding ends render_item first_lines Plain
lines_item (lit c) n j x h = go (ℕ_discrete c 10)
  where
    go : Dec (c ≡ 10) → first_lines (ends (lit c) + j) (c ∷ x) ≡ c ∷ first_lines j x
    go (yes e) =
        let k : ends (lit c) + j ≡ suc j = ap (λ (m : ℕ). m + j) (pick_true _ _ _ (eq-eqb c 10 e)) ∙ omega arith in
        rw k (ap (λ (l : List ℕ). c ∷ l) (pick_true _ _ _ (eq-eqb c 10 e)))
    go (no e) = plain_lines (c ∷ []) x (ends (lit c)) j (e, tt) (pick_false _ _ _ (ne_eqb c 10 e)) h
lines_item (dec w) n j x h = plain_lines (digits 10 w n) x 0 j (plain_digits 10 w n) refl h
lines_item (hex w) n j x h = plain_lines (digits 16 w n) x 0 j (plain_digits 16 w n) refl h
lines_item name n j x h = plain_lines (name_of n) x 0 j (plain_name n) refl h

-- texts that agree after an item agree with it
same_item : (i : Item) (n k : ℕ) (x y : List ℕ) → first_lines k x ≡ first_lines k y
    → first_lines (ends i + k) (render_item i n ++ x) ≡ first_lines (ends i + k) (render_item i n ++ y)
unfolding first_lines
same_item i n k x y e = go (dec_lt 0 (ends i + k))
  where
    go : Dec (0 < ends i + k) → first_lines (ends i + k) (render_item i n ++ x) ≡ first_lines (ends i + k) (render_item i n ++ y)
    go (yes h) = lines_item i n k x h ∙ ap (λ (l : List ℕ). render_item i n ++ l) e ∙ sym (lines_item i n k y h)
    go (no h) =
        let z : ends i + k ≡ 0 = omega arith in
        rw z

-- and with a whole form
pub lines_same : (f : Form) (ns : List ℕ) (k : ℕ) (x y : List ℕ) → first_lines k x ≡ first_lines k y
    → first_lines (lines_in f + k) (render f ns ++ x) ≡ first_lines (lines_in f + k) (render f ns ++ y)
unfolding lines_in render
lines_same [] ns k x y e = rw (zero-add k) e
lines_same (i ∷ f) ns k x y e =
    let n = get_or ns 0 0 in
    let r = render f (drop (takes i) ns) in
    rw (append_assoc (render_item i n) r x, append_assoc (render_item i n) r y, add_assoc (ends i) (lines_in f) k)
    (same_item i n (lines_in f + k) (r ++ x) (r ++ y) (lines_same f (drop (takes i) ns) k x y e))

-- ---- a fault, and the texts in form that go as far

-- numbers that fit any form
unfoldable pub blank : Form → List ℕ
blank [] = []
blank (lit c ∷ f) = blank f
blank (dec w ∷ f) = 0 ∷ blank f
blank (hex w ∷ f) = 0 ∷ blank f
blank (name ∷ f) = 1 ∷ blank f

pub blank_fits : (f : Form) → Fits f (blank f)
unfolding blank Fits Fit takes
blank_fits [] = refl
blank_fits (lit c ∷ f) = (omega arith, (tt, blank_fits f))
blank_fits (dec w ∷ f) = (omega arith, (one-le-pow w 10 (omega arith), blank_fits f))
blank_fits (hex w ∷ f) = (omega arith, (one-le-pow w 16 (omega arith), blank_fits f))
blank_fits (name ∷ f) = (omega arith, ((omega arith, omega arith), blank_fits f))

joined_faulty : (ms : List ℕ) (j : ℕ) (s : Scan) (k : ℕ) → joined ms j s ≡ faulty k → (i : ℕ) × ((s ≡ faulty i) × (k ≡ j + i))
unfolding joined
joined_faulty ms j (taken ns t) k e = absurd (apart _ _ _ (sym e))
joined_faulty ms j (faulty i) k e = (i, (refl, cc))

-- The numbers of a text in form that has the same lines as t before the fault, whatever follows it.
abbrev pub Completed : Form → ℕ → List ℕ → Type 0
Completed f k t = (ns : List ℕ) × (Fits f ns × ((u : List ℕ) → first_lines k t ≡ first_lines k (render f ns ++ u)))

-- the lines before a fault begin some text in form
pub completed : (f : Form) (t : List ℕ) (k : ℕ) → scan f t ≡ faulty k → Completed f k t
unfolding scan follow render Fits first_lines
completed [] t k e = absurd (apart [] t k (sym e))
completed (i ∷ f) t k e = go (scan_item i t) refl e (completed f)
  where
    go : (s : Scan) → scan_item i t ≡ s → follow (ends i) s (scan f) ≡ faulty k
        → ((u : List ℕ) (j : ℕ) → scan f u ≡ faulty j → Completed f j u) → Completed (i ∷ f) k t
    go (faulty j) q d r =
        let z : k ≡ 0 = fault_eq j k d ∙ item_fault i t j q in
        (blank (i ∷ f), (blank_fits (i ∷ f), λ u. rw z))
      where
        fault_eq : (a b : ℕ) → faulty a ≡ faulty b → b ≡ a
        fault_eq a b w = cc
    go (taken ms u) q d r =
        let j = joined_faulty ms (ends i) (scan f u) k d in
        let a = item_taken i t ms u q in
        let b = r u j.0 j.1.0 in
        let c : drop (takes i) (ms ++ b.0) ≡ b.0 = drop_at ms b.0 (takes i) a.count in (
          ms ++ b.0,
          (
            (omega (arith, a.count, length-append ms b.0), (fit_own i ms b.0 a.count a.fit, rw c b.1.0)),
            λ v.
                subst (λ (m : ℕ). first_lines m t ≡ first_lines m (render (i ∷ f) (ms ++ b.0) ++ v)) (sym j.1.1)
                (rw (item_own i ms b.0 a.count, c, append_assoc (render_item i (get_or ms 0 0)) (render f b.0) v)
                (ap (first_lines (ends i + j.0)) a.spelt
                ∙ same_item i (get_or ms 0 0) j.0 u (render f b.0 ++ v) (b.1.1 v))),
          ),
        )

-- what two texts that agree have of an item
item_agrees : (i : Item) (k : ℕ) (t u t' u' ms ms' : List ℕ) → scan_item i t ≡ taken ms u → scan_item i t' ≡ taken ms' u'
    → first_lines (ends i + suc k) t ≡ first_lines (ends i + suc k) t' → (ms ≡ ms') × (first_lines (suc k) u ≡ first_lines (suc k) u')
item_agrees i k t u t' u' ms ms' e e' h =
    let a = item_taken i t ms u e in
    let a' = item_taken i t' ms' u' e' in
    let b = back ms (first_lines (suc k) u) a.count a.fit in
    let b' = back ms' (first_lines (suc k) u') a'.count a'.fit in
    let s = through t u (get_or ms 0 0) a.spelt in
    let s' = through t' u' (get_or ms' 0 0) a'.spelt in
    same _ _ _ _ (sym b ∙ ap (scan_item i) (sym s ∙ h ∙ s') ∙ b')
  where
    back : (ns x : List ℕ) → length ns ≡ takes i → Fit i (get_or ns 0 0) → scan_item i (render_item i (get_or ns 0 0) ++ x) ≡ taken ns x
    back ns x c f = item_back i ns x (omega (arith, c)) f ∙ ap (λ (l : List ℕ). taken l x) (take_all (takes i) ns (omega (arith, c)))

    through : (x y : List ℕ) (n : ℕ) → x ≡ render_item i n ++ y → first_lines (ends i + suc k) x ≡ render_item i n ++ first_lines (suc k) y
    through x y n q = ap (first_lines (ends i + suc k)) q ∙ lines_item i n (suc k) y (omega arith)

    same : (a b c d : List ℕ) → taken a b ≡ taken c d → (a ≡ c) × (b ≡ d)
    same a b c d q = (cc, cc)

-- what two texts in form that agree have of a form
pub form_agrees : (f : Form) (k : ℕ) (t t' ns rest ns' rest' : List ℕ) → scan f t ≡ taken ns rest → scan f t' ≡ taken ns' rest'
    → first_lines (lines_in f + suc k) t ≡ first_lines (lines_in f + suc k) t'
    → (ns ≡ ns') × (first_lines (suc k) rest ≡ first_lines (suc k) rest')
unfolding scan follow lines_in
form_agrees [] k t t' ns rest ns' rest' e e' h = none e e' (rw (zero-add (suc k)) at h)
  where
    none : taken [] t ≡ taken ns rest → taken [] t' ≡ taken ns' rest' → first_lines (suc k) t ≡ first_lines (suc k) t'
        → (ns ≡ ns') × (first_lines (suc k) rest ≡ first_lines (suc k) rest')
    none a b c =
        let p : t ≡ rest = cc in
        let q : t' ≡ rest' = cc in
        (cc, rw (← p, ← q) c)
form_agrees (i ∷ f) k t t' ns rest ns' rest' e e' h =
    go (scan_item i t) (scan_item i t') refl refl e e' (λ u u' ls ls'. form_agrees f k u u' ls rest ls' rest')
  where
    go : (s s' : Scan) → scan_item i t ≡ s → scan_item i t' ≡ s' → follow (ends i) s (scan f) ≡ taken ns rest
        → follow (ends i) s' (scan f) ≡ taken ns' rest'
        → ((u u' ls ls' : List ℕ) → scan f u ≡ taken ls rest → scan f u' ≡ taken ls' rest'
        → first_lines (lines_in f + suc k) u ≡ first_lines (lines_in f + suc k) u'
        → (ls ≡ ls') × (first_lines (suc k) rest ≡ first_lines (suc k) rest'))
        → (ns ≡ ns') × (first_lines (suc k) rest ≡ first_lines (suc k) rest')
    go (faulty j) s' q q' d d' r = absurd (apart ns rest j d)
    go (taken ms u) (faulty j) q q' d d' r = absurd (apart ns' rest' j d')
    go (taken ms u) (taken ms' u') q q' d d' r =
        let a = joined_taken ms (ends i) (scan f u) ns rest d in
        let b = joined_taken ms' (ends i) (scan f u') ns' rest' d' in
        let w : lines_in f + suc k ≡ suc (lines_in f + k) = add-suc (lines_in f) k in
        let m : ends i + lines_in f + suc k ≡ ends i + suc (lines_in f + k) = omega arith in
        let c = item_agrees i (lines_in f + k) t u t' u' ms ms' q q' (rw m at h) in
        let g = r u u' a.0 b.0 a.1.0 b.1.0 (rw w c.1) in
        (a.1.1 ∙ cc (c.0, g.0) ∙ sym b.1.1, g.1)

-- no text that has the item agrees with one that lacks it
item_parts : (i : Item) (t t' ms u : List ℕ) (j : ℕ) → scan_item i t ≡ faulty j → scan_item i t' ≡ taken ms u
    → first_lines 1 t ≡ first_lines 1 t' → ⊥
item_parts i t t' ms u j e e' h =
    let a = item_taken i t' ms u e' in
    let w = lines_front 1 t in
    let o = ends_one i in
    let k : ends i + (1 - ends i) ≡ 1 = omega arith in
    let p : first_lines 1 t' ≡ render_item i (get_or ms 0 0) ++ first_lines (1 - ends i) u =
    ap (first_lines 1) a.spelt ∙ rw k at (lines_item i (get_or ms 0 0) (1 - ends i) u (omega arith)) in
    let s : t ≡ render_item i (get_or ms 0 0) ++ (first_lines (1 - ends i) u ++ w.0) =
    w.1 ∙ ap (λ (l : List ℕ). l ++ w.0) (h ∙ p) ∙ append_assoc (render_item i (get_or ms 0 0)) (first_lines (1 - ends i) u) w.0 in
    apart _ _ j (sym e ∙ ap (scan_item i) s ∙ item_back i ms (first_lines (1 - ends i) u ++ w.0) (omega (arith, a.count)) a.fit)

-- no text in form agrees with t through the line of the fault
pub none_agrees : (f : Form) (k : ℕ) (t t' ns rest : List ℕ) → scan f t ≡ faulty k → scan f t' ≡ taken ns rest
    → first_lines (suc k) t ≡ first_lines (suc k) t' → ⊥
unfolding scan follow
none_agrees [] k t t' ns rest e e' h = apart [] t k (sym e)
none_agrees (i ∷ f) k t t' ns rest e e' h = go (scan_item i t) (scan_item i t') refl refl e e' (λ j u u' ls. none_agrees f j u u' ls rest)
  where
    go : (s s' : Scan) → scan_item i t ≡ s → scan_item i t' ≡ s' → follow (ends i) s (scan f) ≡ faulty k
        → follow (ends i) s' (scan f) ≡ taken ns rest
        → ((j : ℕ) (u u' ls : List ℕ) → scan f u ≡ faulty j → scan f u' ≡ taken ls rest → first_lines (suc j) u ≡ first_lines (suc j) u' → ⊥)
        → ⊥
    go s (faulty j) q q' d d' r = apart ns rest j d'
    go (faulty j) (taken ms' u') q q' d d' r =
        let z : k ≡ 0 = fault_eq j k d ∙ item_fault i t j q in
        item_parts i t t' ms' u' j q q' (rw z at h)
      where
        fault_eq : (a b : ℕ) → faulty a ≡ faulty b → b ≡ a
        fault_eq a b w = cc
    go (taken ms u) (taken ms' u') q q' d d' r =
        let a = joined_faulty ms (ends i) (scan f u) k d in
        let b = joined_taken ms' (ends i) (scan f u') ns rest d' in
        let m : suc k ≡ ends i + suc a.0 = ap suc a.1.1 ∙ omega arith in
        let c = item_agrees i a.0 t u t' u' ms ms' q q' (rw m at h) in
        r a.0 u u' b.0 a.1.0 b.1.0 c.1

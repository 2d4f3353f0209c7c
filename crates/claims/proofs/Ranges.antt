-- A list that is not refused fits the widths of a listing. Assumes nothing.
use mathlib.Core.Path.{◌≡◌, refl, ◌∙◌}
use Prim.Native.Nat.{ℕ, zero, suc, ◌+◌, ◌*◌, ◌^◌, ◌<◌, ◌≤◌}
use native.Mathlib.Nat.{not-suc-le-zero}
use native.Mathlib.Omega.{arith}
use mathlib.Core.Bool.{true}
use mathlib.Core.List.{List, [], ◌∷◌, ◌++◌, map}
use mathlib.Core.Logic.{◌⊎◌, inl, inr}
use lib.ListN.{length, get_or, drop, length-append, length-drop}
use lib.Seq.{drop-append-le}
use Rattle.lane.specs.declared.Settings.{Settings}
use Rattle.lane.specs.declared.Insn.{Insn}
use Rattle.lane.specs.Refusals.{instruction_answer, settings_good}
use Rattle.lane.proofs.Accepted.{Narrow, fields_fit, settings_in_range}
use Rattle.runner.specs.Checks.{insn_at, count_of, list_answer}
use Rattle.runner.proofs.Scan.{insn_words}
use Rattle.runner.proofs.Accepted.{listed}
use Rattle.listing.specs.Forms.{Item, lit, dec, hex, name, Form, literal, takes}
use Rattle.listing.specs.Listing.{Format, old, two, formats, header_with, head, line, lines, header_of}
use Rattle.listing.proofs.Trips.{Fit, Fits}
use Rattle.claims.specs.Claims.{Among}
use Rattle.claims.proofs.Table.{of_each}

-- ---- forms

fit_more : (i : Item) (ms ns : List ℕ) → takes i ≤ length ms → Fit i (get_or ms 0 0) → Fit i (get_or (ms ++ ns) 0 0)
unfolding takes Fit
fit_more (lit c) ms ns h f = tt
fit_more (dec w) [] ns h f = absurd (not-suc-le-zero h)
fit_more (dec w) (m ∷ ms) ns h f = f
fit_more (hex w) [] ns h f = absurd (not-suc-le-zero h)
fit_more (hex w) (m ∷ ms) ns h f = f
fit_more name [] ns h f = absurd (not-suc-le-zero h)
fit_more name (m ∷ ms) ns h f = f

pub fits_append : (f g : Form) (ms ns : List ℕ) → Fits f ms → Fits g ns → Fits (f ++ g) (ms ++ ns)
unfolding Fits
fits_append [] g [] ns h k = k
fits_append [] g (m ∷ ms) ns h k = absurd (no (length ms) h)
  where
    no : (n : ℕ) → suc n ≡ 0 → ⊥
    no n e = omega arith
fits_append (i ∷ f) g ms ns h k = (
  omega (arith, h.0, length-append ms ns),
  (
    fit_more i ms ns h.0 h.1.0,
    rw (drop-append-le (takes i) ms ns h.0) (fits_append f g (drop (takes i) ms) ns h.1.1 k),
  ),
)

fits_none : Fits [] []
unfolding Fits
fits_none = refl

fits_byte : (c : ℕ) (f : Form) (ns : List ℕ) → Fits f ns → Fits (lit c ∷ f) ns
unfolding Fits Fit takes
fits_byte c f ns h = (omega arith, (tt, h))

fits_literal : (bs : List ℕ) (f : Form) (ns : List ℕ) → Fits f ns → Fits (literal bs ++ f) ns
unfolding literal
fits_literal [] f ns h = h
fits_literal (b ∷ bs) f ns h = fits_byte b (map lit bs ++ f) ns (fits_literal bs f ns h)

fits_dec : (w n : ℕ) (f : Form) (ns : List ℕ) → n < 10 ^ w → Fits f ns → Fits (dec w ∷ f) (n ∷ ns)
unfolding Fits Fit takes
fits_dec w n f ns l h = (omega arith, (l, h))

fits_name : (n : ℕ) (f : Form) (ns : List ℕ) → 0 < n → n ≤ 16 → Fits f ns → Fits (name ∷ f) (n ∷ ns)
unfolding Fits Fit takes
fits_name n f ns z l h = (omega arith, ((z, l), h))

module _ (bs : List ℕ) (w n : ℕ) (l : n < 10 ^ w) where
  fits_line : Fits (literal bs ++ (dec w ∷ lit 10 ∷ [])) (n ∷ [])
  fits_line = fits_literal bs _ _ (fits_dec w n _ _ l (fits_byte 10 _ _ fits_none))

  then_line : (f : Form) (ns : List ℕ) → Fits f ns → Fits ((literal bs ++ (dec w ∷ lit 10 ∷ [])) ++ f) (n ∷ ns)
  then_line f ns h = fits_append (literal bs ++ (dec w ∷ lit 10 ∷ [])) f (n ∷ []) ns fits_line h

-- ---- settings

either : (n : ℕ) → (n ≡ 1) ⊎ (n ≡ 2) → n < 10 ^ 1
either n (inl e) = omega arith
either n (inr e) = omega arith

header_fits : (w : ℕ) (s : Settings) (count : ℕ) → settings_good s ≡ true → count < 10 ^ w → Fits (header_with w) (header_of s count)
unfolding header_with header_of
header_fits w s count h k =
    let r = settings_in_range s h in
    then_line _ 1 _ (either _ r.edition) _ _
    (then_line _ 1 _ (either _ r.srcb) _ _
    (then_line _ 4 _ (omega (arith, r.offset)) _ _
    (then_line _ 4 _ (omega (arith, r.cursor)) _ _
    (then_line _ 4 _ (omega (arith, r.stride0)) _ _
    (then_line _ 4 _ (omega (arith, r.stride1)) _ _
    (then_line _ 4 _ (omega (arith, r.stride2)) _ _
    (then_line _ 4 _ (omega (arith, r.stride3)) _ _ (fits_line _ w _ k))))))))

-- the head of every format, for a count within its limit
head_fits : (f : Format) → Among f formats → (s : Settings) (count : ℕ) → settings_good s ≡ true → count ≤ f.limit → Fits (head f) (header_of s count)
unfolding head
head_fits =
    of_each (λ f. (s : Settings) (count : ℕ) → settings_good s ≡ true → count ≤ f.limit → Fits (literal f.mark ++ f.header) (header_of s count))
    (λ s count h k. fits_literal two.mark _ _ (header_fits 5 s count h (omega arith)))
    (λ s count h k. fits_literal old.mark _ _ (header_fits 4 s count h (omega arith)))

-- ---- instructions

line_fits : (i : Insn) → Narrow i → Fits line (i.op ∷ i.imm ∷ i.vb ∷ i.vc ∷ i.vd ∷ i.md ∷ [])
unfolding line
line_fits i n =
    fits_literal _ _ _
    (fits_name _ _ _ n.known n.last
    (fits_literal _ _ _
    (fits_dec 5 _ _ _ (omega (arith, n.imms))
    (fits_literal _ _ _
    (fits_dec 2 _ _ _ (omega (arith, n.vbs))
    (fits_literal _ _ _
    (fits_dec 2 _ _ _ (omega (arith, n.vcs))
    (fits_literal _ _ _
    (fits_dec 2 _ _ _ (omega (arith, n.vds))
    (fits_literal _ _ _ (fits_dec 2 _ _ _ (omega (arith, n.mods)) (fits_byte 10 _ _ fits_none))))))))))))

lines_fit : (list : List ℕ) (n k : ℕ) → 6 * (k + n) ≡ length list
    → ((j : ℕ) → k ≤ j → j < k + n → instruction_answer true (insn_at list j) ≡ 0) → Fits (lines n) (drop (6 * k) list)
unfolding lines Fits
lines_fit list zero k e h = length-drop (6 * k) list ∙ omega arith
lines_fit list (suc n) k e h =
    rw (insn_words list k (omega arith))
    (fits_append line (lines n) _ (drop (6 * (k + 1)) list) (line_fits (insn_at list k) (fields_fit (insn_at list k) (h k (omega arith) (omega arith))))
    (lines_fit list n (k + 1) (omega arith) (λ j a b. h j (omega arith) (omega arith))))

pub list_fits : (f : Format) → Among f formats → (s : Settings) (list : List ℕ) → (list_answer s list).answer ≡ 0 → count_of list ≤ f.limit
    → Fits (head f) (header_of s (count_of list)) × Fits (lines (count_of list)) list
list_fits f m s list e k =
    let a = listed s list e in (
      head_fits f m s (count_of list) a.checked.settings_good_lem k,
      lines_fit list (count_of list) 0 (omega (arith, a.checked.six)) (λ j z l. a.each j (omega arith)),
    )

use Rattle.std.proofs.Common.{◌≡◌, ◌+◌, ◌<◌, ℕ, List, get_or, slice_range, arith, refl}
use mathlib.Core.Path.{ap, ◌∙◌}
use native.Mathlib.Nat.{zero-add}
use Rattle.std.proofs.lemmas.List.Edits.{get_or-between}
use Rattle.listing.specs.Forms.{digit, numeric, number}
use Rattle.listing.proofs.Digits.{number_small}
use Rattle.listing.proofs.Scans.{value_fits, value_fits_times, number_short, number_more, number_stops, number_ends}
use Rattle.listing.proofs.forms.number.Goals as goal

-- a digit of the part that is read
digit_at : (items t : List ℕ) (at w i d : ℕ) → items ≡ slice_range t 0 w → i < w → d ≡ digit (get_or items i 0) → d ≡ digit (get_or t (0 + i) 0)
digit_at items t at w i d q l e = e ∙ ap digit (rw q (get_or-between t 0 w i 0 (omega arith)))

pub returns-in_err-c-items : goal.returns-in_err-c-items
returns-in_err-c-items c = let a = c.args in rw c.from_residual.ensures (number_short a.base a.w a.text.now 0 c.requires.0 (omega arith) (omega (arith, c.in_err-c-items.ensures.lookup)))

pub loop-c-init : goal.loop-c-init
unfolding numeric number
loop-c-init c = (refl, refl)

pub returns-in_err-d : goal.returns-in_err-d
returns-in_err-d c = let a = c.args in let p = c.in_ok-c-items.ensures.lookup.0 in let i = c.loop-c.c-index in
    let l : i < a.w = omega (arith, p.3) in
    rw c.from_residual-in_err-d.ensures (number_stops a.base i a.w a.text.now 0 l (omega (arith, digit_at _ a.text.now 0 a.w i 36 p.2 l c.in_err-d.ensures)))

pub returns-then-base-d : goal.returns-then-base-d
returns-then-base-d c = let a = c.args in let p = c.in_ok-c-items.ensures.lookup.0 in let i = c.loop-c.c-index in
    let l : i < a.w = omega (arith, p.3) in
    number_stops a.base i a.w a.text.now 0 l (omega (arith, digit_at _ a.text.now 0 a.w i c.in_ok-d.d p.2 l c.in_ok-d.ensures))

pub overflow_mul-value : goal.overflow_mul-value
overflow_mul-value c = let a = c.args in
    record { fits = value_fits_times a.base c.loop-c.c-index a.w _ c.in_ok-d.d (rw c.loop-c.invariant.1 (number_small _ _ _ c.loop-c.invariant.0)) (omega (arith, c.in_ok-c-items.ensures.lookup.0.3)) c.if-base-d.false c.requires.2 }

pub overflow_add-value : goal.overflow_add-value
overflow_add-value c = let a = c.args in
    record { fits = value_fits a.base c.loop-c.c-index a.w _ c.in_ok-d.d (rw c.loop-c.invariant.1 (number_small _ _ _ c.loop-c.invariant.0)) (omega (arith, c.in_ok-c-items.ensures.lookup.0.3)) c.if-base-d.false c.requires.2 }

pub loop-c-preserved : goal.loop-c-preserved
loop-c-preserved c = let a = c.args in let p = c.in_ok-c-items.ensures.lookup.0 in let i = c.loop-c.c-index in
    let q = number_more a.base i a.text.now 0 c.in_ok-d.d c.loop-c.invariant.0 (digit_at _ a.text.now 0 a.w i c.in_ok-d.d p.2 (omega (arith, p.3)) c.in_ok-d.ensures) c.if-base-d.false in
    (q.0, rw c.loop-c.invariant.1 q.1)

pub returns : goal.returns
returns c = let a = c.args in let p = c.in_ok-c-items.ensures.lookup.0 in let v = c.loop-c.invariant in
    let e : c.loop-c.c-index ≡ a.w = omega (arith, p.3) in
    record { scanned = rw zero-add at (number_ends a.base a.w a.text.now 0 c.loop-c.value (rw e at v.0) (rw e at v.1)); within = omega (arith, p.1) }

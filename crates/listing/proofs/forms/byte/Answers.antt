use Rattle.std.proofs.Common.{arith}
use mathlib.Core.Bool.{false≢true}
use mathlib.Core.Path.{sym, ◌∙◌}
use Rattle.listing.proofs.Scans.{byte_missing, byte_found}
use Rattle.listing.proofs.forms.byte.Goals as goal

pub returns-in_err-get : goal.returns-in_err-get
returns-in_err-get c = let a = c.args in rw c.from_residual.ensures (byte_missing a.text.now 0 a.x (λ l _. absurd (false≢true (c.in_err-get.ensures.lookup.2 l))))

pub returns-then-branch-x : goal.returns-then-branch-x
returns-then-branch-x c = let a = c.args in let h = c.in_ok-get.ensures.lookup.3 in
    record { scanned = byte_found a.text.now 0 a.x h.0 (sym (h.1 0) ∙ c.if-branch-x.true); within = omega (arith, h.0) }

pub returns : goal.returns
returns c = let a = c.args in byte_missing a.text.now 0 a.x (λ _ e. c.if-branch-x.false (c.in_ok-get.ensures.lookup.3.1 0 ∙ e))

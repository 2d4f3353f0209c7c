use Rattle.std.proofs.Common.{◌≡◌, ◌<◌, ℕ, false}
use Rattle.listing.specs.Forms.{begins, name_of}
use Rattle.listing.proofs.forms.op_name.Given as goal

abbrev pub invariant-loop-op : goal.invariant-loop-op
invariant-loop-op l = (k : ℕ) → k < l.op → 0 < k → begins (name_of k) l.text ≡ false

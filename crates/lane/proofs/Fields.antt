-- The table of fields: a number that is no op has no row. Assumes nothing.
use Rattle.std.proofs.Common.{◌≡◌, ℕ, ◌<◌, ◌≤◌, sym, ap, lt_of_not-le}
use native.Mathlib.Decide.{dec_le}
use lib.ListN.{get_or-eq_default}
use Rattle.lane.specs.Refusals.{imm_limits, vb_limits, vc_limits, vd_limits, mods_allowed, limits, limits_of}

past : (op : ℕ) → 17 ≤ op → limits 0 0 0 0 0 ≡ limits_of op
unfolding limits_of
past op h =
    λ i.
    record {
      imm = sym (get_or-eq_default imm_limits 0 h) i;
      vb = sym (get_or-eq_default vb_limits 0 h) i;
      vc = sym (get_or-eq_default vc_limits 0 h) i;
      vd = sym (get_or-eq_default vd_limits 0 h) i;
      mods = sym (get_or-eq_default mods_allowed 0 h) i;
    }

none : (op : ℕ) → op ≡ 0 → limits 0 0 0 0 0 ≡ limits_of op
unfolding limits_of
none op e = ap limits_of (sym e)

pub no_row : (op : ℕ) → (op < 17 → op ≡ 0) → limits 0 0 0 0 0 ≡ limits_of op
no_row op h = elim (dec_le 17 op) [ yes k ↦ past op k | no k ↦ none op (h (lt_of_not-le k)) ]

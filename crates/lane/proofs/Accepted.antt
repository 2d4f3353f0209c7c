-- What an accepted instruction's fields and accepted settings can be, so that the crates above open no definition. Assumes nothing.
use Rattle.std.proofs.Common.{◌≡◌, ℕ, ◌<◌, ◌≤◌, Bool, true, false, not, ◌&&◌, ◌||◌, eqb, leb, ◌⊎◌, List, get_or, refl, ap, ◌∙◌, inl, inr, le_trans, arith, ltb-true, lt-ltb, eqb-true, leb-true}
use Rattle.lane.specs.declared.Settings.{Settings}
use Rattle.lane.specs.declared.Insn.{Insn}
use Rattle.lane.specs.Refusals.{pass, one_or_two, settings_good, imm_limits, vb_limits, vc_limits, vd_limits, within, op_known, fields_good, wide_load, instruction_answer}
use Rattle.lane.proofs.Cases.{pick_lt}
use Rattle.lane.proofs.Tables.{and_left, and_right, all_below, below_all}
use Rattle.lane.proofs.Answers.{unrefused}

both : (a b : Bool) → (a && b) ≡ true → (a ≡ true) × (b ≡ true)
both a b h = (and_left a b h, and_right a b h)

join : (a b : Bool) → a ≡ true → b ≡ true → (a && b) ≡ true
join a b p q = ap (λ (t : Bool). t && b) p ∙ q

-- ---- instructions

-- an accepted instruction's fields fit their digits
pub record Narrow (i : Insn) : Type 0 where
  pub known : 0 < i.op
  pub last : i.op ≤ 16
  pub imms : i.imm ≤ 65535
  pub vbs : i.vb ≤ 15
  pub vcs : i.vc ≤ 15
  pub vds : i.vd ≤ 15
  pub mods : i.md < 16

-- a field within a table's limit is at most the table's largest
limited : (limits : List ℕ) (n op x : ℕ) → all_below 17 (λ (k : ℕ). leb (get_or limits k 0) n) ≡ true → op ≤ 16 → within limits op x ≡ true → x ≤ n
limited limits n op x t l h =
    le_trans (leb-true x (get_or limits op 0) h)
    (leb-true (get_or limits op 0) n (below_all 17 (λ (k : ℕ). leb (get_or limits k 0) n) op t (omega arith)))

pub fields_fit : (i : Insn) → instruction_answer true i ≡ 0 → Narrow i
unfolding instruction_answer fields_good
fields_fit i h =
    let q = unrefused (op_known i.op) (fields_good i.op i) true (not (wide_load i.op i.md)) h in
    let o = both (leb 1 i.op) (leb i.op 16) q.0 in
    let l = leb-true i.op 16 o.1 in
    let a5 = both _ _ q.1.0 in
    let a4 = both _ _ a5.0 in
    let a3 = both _ _ a4.0 in
    let a2 = both _ _ a3.0 in
    let a1 = both _ _ a2.0 in
    record {
      known = leb-true 1 i.op o.0;
      last = l;
      imms = limited imm_limits 65535 i.op i.imm refl l a1.0;
      vbs = limited vb_limits 15 i.op i.vb refl l a1.1;
      vcs = limited vc_limits 15 i.op i.vc refl l a2.1;
      vds = limited vd_limits 15 i.op i.vd refl l a3.1;
      mods = ltb-true i.md 16 (both _ _ a4.1).0;
    }

-- an answer is one digit
pass_small : (t : Bool) (n rest : ℕ) → n < 10 → rest < 10 → pass t n rest < 10
unfolding pass
pass_small t n rest h k = pick_lt t rest n 10 k h

pub answer_small : (b : Bool) (i : Insn) → instruction_answer b i < 10
unfolding instruction_answer
answer_small b i =
    pass_small (op_known i.op) 7 (pass (fields_good i.op i && b) 8 (pass (not (wide_load i.op i.md)) 9 0)) (omega arith)
    (pass_small (fields_good i.op i && b) 8 (pass (not (wide_load i.op i.md)) 9 0) (omega arith)
    (pass_small (not (wide_load i.op i.md)) 9 0 (omega arith) (omega arith)))

-- ---- settings

-- "edition (1 or 2), srcb (1 or 2), offset, cursor and stride0 to stride3 (each 0 to 1023)", as facts
pub record InRange (s : Settings) : Type 0 where
  pub edition : (s.edition ≡ 1) ⊎ (s.edition ≡ 2)
  pub srcb : (s.srcb ≡ 1) ⊎ (s.srcb ≡ 2)
  pub offset : s.offset < 1024
  pub cursor : s.cursor < 1024
  pub stride0 : s.stride0 < 1024
  pub stride1 : s.stride1 < 1024
  pub stride2 : s.stride2 < 1024
  pub stride3 : s.stride3 < 1024

either : (n : ℕ) → one_or_two n ≡ true → (n ≡ 1) ⊎ (n ≡ 2)
either n h = go (eqb n 1) refl h
  where
    go : (b : Bool) → eqb n 1 ≡ b → (b || eqb n 2) ≡ true → (n ≡ 1) ⊎ (n ≡ 2)
    go true e k = inl (eqb-true n 1 e)
    go false e k = inr (eqb-true n 2 k)

of_either : (n : ℕ) → (n ≡ 1) ⊎ (n ≡ 2) → one_or_two n ≡ true
of_either n (inl e) = ap (λ (k : ℕ). one_or_two k) e
of_either n (inr e) = ap (λ (k : ℕ). one_or_two k) e

pub settings_in_range : (s : Settings) → settings_good s ≡ true → InRange s
unfolding settings_good
settings_in_range s h =
    let a7 = both _ _ h in
    let a6 = both _ _ a7.0 in
    let a5 = both _ _ a6.0 in
    let a4 = both _ _ a5.0 in
    let a3 = both _ _ a4.0 in
    let a2 = both _ _ a3.0 in
    let a1 = both _ _ a2.0 in
    record {
      edition = either s.edition a1.0;
      srcb = either s.srcb a1.1;
      offset = ltb-true s.offset 1024 a2.1;
      cursor = ltb-true s.cursor 1024 a3.1;
      stride0 = ltb-true s.stride0 1024 a4.1;
      stride1 = ltb-true s.stride1 1024 a5.1;
      stride2 = ltb-true s.stride2 1024 a6.1;
      stride3 = ltb-true s.stride3 1024 a7.1;
    }

-- and no more is asked of them
pub in_range_settings : (s : Settings) → InRange s → settings_good s ≡ true
unfolding settings_good
in_range_settings s h =
    join _ _
    (join _ _
    (join _ _
    (join _ _
    (join _ _
    (join _ _
    (join _ _ (of_either s.edition h.edition) (of_either s.srcb h.srcb))
    (lt-ltb s.offset 1024 h.offset))
    (lt-ltb s.cursor 1024 h.cursor))
    (lt-ltb s.stride0 1024 h.stride0))
    (lt-ltb s.stride1 1024 h.stride1))
    (lt-ltb s.stride2 1024 h.stride2))
    (lt-ltb s.stride3 1024 h.stride3)

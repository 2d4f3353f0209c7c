-- What every run does and leaves, and the steps through a list in two parts. Assumes nothing.
use mathlib.Core.Path.{◌≡◌, refl, sym, ap, ◌∙◌}
use Prim.Native.Nat.{ℕ, zero, suc, ◌+◌, ◌*◌, ◌/◌, ◌%◌, ◌<◌, ◌≤◌}
use native.Mathlib.Nat.{add-suc, add-zero, add_assoc, mul_comm, le_trans, le_of_eq, lt_of_not-le}
use native.Mathlib.Decide.{dec_le}
use native.Mathlib.Omega.{arith}
use mathlib.Core.Bool.{Bool, true, false}
use mathlib.Core.List.{List, ◌++◌}
use lib.ListN.{length, get_or, length-append, get_or-eq_default}
use lib.Dec.{eqb}
use borrow.Author.Tests.{eq-eqb, ne_eqb, eqb-true}
use Rattle.lane.specs.declared.Settings.{Settings}
use Rattle.lane.specs.declared.Insn.{Insn}
use Rattle.lane.specs.Words.{pick, build}
use Rattle.lane.specs.Load.{stride}
use Rattle.lane.specs.Rule.{stores_of}
use Rattle.lane.proofs.Cases.{pick_true, pick_false}
use Rattle.lane.proofs.Stores.{length_build, get_d_build}
use Rattle.runner.specs.declared.Outcome.{Outcome}
use Rattle.runner.specs.Image.{image_good}
use Rattle.runner.specs.Checks.{insn_at, count_of, run_answer}
use Rattle.runner.specs.Run.{Machine, lane_after, image_at, image_after, dst_after, stepped, steps, begin, finish, ties_by, stores_by, over_column, count_after, counts_of, when_done, when_refused, outcome_of, run_image, run_dst}
use Rattle.runner.proofs.Counts.{few_ties, few_stores}
use Rattle.runner.proofs.Scan.{insn_first, insn_second}
use Rattle.claims.specs.Claims.{with_cursor}
use Rattle.claims.proofs.Kept.{good_steps, length_steps}

-- ---- counts

-- a count that is looked up: one of the eight, or 0
pub counted_by : (P : ℕ → ℕ → ℕ → Type 0) (f g h : ℕ → ℕ) (c : ℕ) → (c < 8 → P (f c) (g c) (h c)) → P 0 0 0
    → P (get_or (build 8 f) c 0) (get_or (build 8 g) c 0) (get_or (build 8 h) c 0)
counted_by P f g h c k z =
    elim (dec_le 8 c) [ yes l ↦ rw (past f l, past g l, past h l) z | no l ↦ rw (at f l, at g l, at h l) (k (lt_of_not-le l)) ]
  where
    past : (f : ℕ → ℕ) → 8 ≤ c → get_or (build 8 f) c 0 ≡ 0
    past f l = get_or-eq_default (build 8 f) 0 (omega (arith, length_build 8 f))

    at : (f : ℕ → ℕ) → (8 ≤ c → ⊥) → get_or (build 8 f) c 0 ≡ f c
    at f l = get_d_build 8 f c (lt_of_not-le l)

-- ---- every run

module _ (s : Settings) (image dst list : List ℕ) where
  -- refused
  pub refused : ((run_answer s image dst list).answer ≡ 0 → ⊥)
      → (outcome_of s image dst list ≡ when_refused s (run_answer s image dst list))
      × ((run_image s image dst list ≡ image) × (run_dst s image dst list ≡ dst))
  unfolding outcome_of run_image run_dst
  refused h = (
    pick_false (eqb (run_answer s image dst list).answer 0) _ _ (ne_eqb (run_answer s image dst list).answer 0 h),
    (
      pick_false (eqb (run_answer s image dst list).answer 0) (finish s image dst list).image image (ne_eqb (run_answer s image dst list).answer 0 h),
      pick_false (eqb (run_answer s image dst list).answer 0) (finish s image dst list).dst dst (ne_eqb (run_answer s image dst list).answer 0 h),
    ),
  )

  -- done
  pub done : (run_answer s image dst list).answer ≡ 0
      → (outcome_of s image dst list ≡ when_done s image dst list)
      × ((run_image s image dst list ≡ (finish s image dst list).image) × (run_dst s image dst list ≡ (finish s image dst list).dst))
  unfolding outcome_of run_image run_dst
  done h = (
    pick_true (eqb (run_answer s image dst list).answer 0) _ _ (eq-eqb (run_answer s image dst list).answer 0 h),
    (
      pick_true (eqb (run_answer s image dst list).answer 0) (finish s image dst list).image image (eq-eqb (run_answer s image dst list).answer 0 h),
      pick_true (eqb (run_answer s image dst list).answer 0) (finish s image dst list).dst dst (eq-eqb (run_answer s image dst list).answer 0 h),
    ),
  )

  -- an outcome's answer is the checks'
  pub answered : (outcome_of s image dst list).answer ≡ (run_answer s image dst list).answer
  unfolding outcome_of pick
  answered = go (eqb (run_answer s image dst list).answer 0) refl
    where
      go : (t : Bool) → eqb (run_answer s image dst list).answer 0 ≡ t
          → (pick {X = Outcome} t (when_done s image dst list) (when_refused s (run_answer s image dst list))).answer ≡ (run_answer s image dst list).answer
      go true e = sym (eqb-true (run_answer s image dst list).answer 0 e)
      go false e = refl

  -- and a column's counts are few
  pub few_counted : (c : ℕ)
      → (get_or (outcome_of s image dst list).ties c 0 ≤ 4 * (outcome_of s image dst list).steps)
      × (get_or (outcome_of s image dst list).stores c 0 ≤ 16 * (outcome_of s image dst list).steps)
  unfolding outcome_of pick
  few_counted c = go (eqb (run_answer s image dst list).answer 0)
    where
      under : (f : ℕ → ℕ) (k n : ℕ) → ((c : ℕ) → f c ≤ n * k) → get_or (build 8 f) c 0 ≤ k * n
      under f k n h = counted_by (λ (x y z : ℕ). x ≤ k * n) f f f c (λ l. le_trans (h c) (le_of_eq (mul_comm n k))) (omega arith)

      go : (t : Bool)
          → (get_or (pick {X = Outcome} t (when_done s image dst list) (when_refused s (run_answer s image dst list))).ties c 0
          ≤ 4 * (pick {X = Outcome} t (when_done s image dst list) (when_refused s (run_answer s image dst list))).steps)
          × (get_or (pick {X = Outcome} t (when_done s image dst list) (when_refused s (run_answer s image dst list))).stores c 0
          ≤ 16 * (pick {X = Outcome} t (when_done s image dst list) (when_refused s (run_answer s image dst list))).steps)
      go true = (
        under (count_after ties_by s list (count_of list) (begin s image dst)) 4 (count_of list) (few_ties s list (count_of list) (begin s image dst)),
        under (count_after (stores_by s) s list (count_of list) (begin s image dst)) 16 (count_of list) (few_stores s list (count_of list) (begin s image dst)),
      )
      go false = (under (λ c. 0) 4 0 (λ c. omega arith), under (λ c. 0) 16 0 (λ c. omega arith))

  -- well formed afterwards
  pub stays_good : image_good image ≡ true → image_good (run_image s image dst list) ≡ true
  unfolding run_image
  stays_good h = go (eqb (run_answer s image dst list).answer 0)
    where
      go : (t : Bool) → image_good (pick t (finish s image dst list).image image) ≡ true
      go true = ap image_good (pick_true true (finish s image dst list).image image refl) ∙ good_steps s list (count_of list) (begin s image dst) h
      go false = ap image_good (pick_false false (finish s image dst list).image image refl) ∙ h

  pub stays_long : length image ≡ 768 → length (run_image s image dst list) ≡ 768
  unfolding run_image
  stays_long h = go (eqb (run_answer s image dst list).answer 0)
    where
      go : (t : Bool) → length (pick t (finish s image dst list).image image) ≡ 768
      go true = ap length (pick_true true (finish s image dst list).image image refl) ∙ length_steps s list (count_of list) (begin s image dst) h
      go false = ap length (pick_false false (finish s image dst list).image image refl) ∙ h

-- ---- a run can be cut

-- a step reads the machine's cursor and not the settings'
step_cursor : (k : ℕ) (s : Settings) (i : Insn) (m : Machine) → stepped (with_cursor k s) i m ≡ stepped s i m
unfolding stepped image_after image_at lane_after stores_of dst_after stride with_cursor
step_cursor k s i m = refl

steps_cursor : (k : ℕ) (s : Settings) (list : List ℕ) (n : ℕ) (m : Machine) → steps (with_cursor k s) list n m ≡ steps s list n m
unfolding steps
steps_cursor k s list zero m = refl
steps_cursor k s list (suc n) m =
    ap (λ (x : Machine). stepped (with_cursor k s) (insn_at list n) x) (steps_cursor k s list n m) ∙ step_cursor k s (insn_at list n) (steps s list n m)

steps_first : (s : Settings) (a b : List ℕ) (n : ℕ) (m : Machine) → 6 * n ≤ length a → steps s (a ++ b) n m ≡ steps s a n m
unfolding steps
steps_first s a b zero m h = refl
steps_first s a b (suc n) m h =
    ap (λ (x : Machine). stepped s (insn_at (a ++ b) n) x) (steps_first s a b n m (omega arith))
    ∙ ap (λ (x : Insn). stepped s x (steps s a n m)) (insn_first a b n (omega arith))

steps_second : (s : Settings) (a b : List ℕ) (n : ℕ) (m : Machine) → length a % 6 ≡ 0 → steps s (a ++ b) (length a / 6 + n) m ≡ steps s b n (steps s a (length a / 6) m)
unfolding steps
steps_second s a b zero m h =
    ap (λ (k : ℕ). steps s (a ++ b) k m) (add-zero (length a / 6)) ∙ steps_first s a b (length a / 6) m (omega arith)
steps_second s a b (suc n) m h =
    ap (λ (k : ℕ). steps s (a ++ b) k m) (add-suc (length a / 6) n)
    ∙ ap (λ (x : Machine). stepped s (insn_at (a ++ b) (length a / 6 + n)) x) (steps_second s a b n m h)
    ∙ ap (λ (x : Insn). stepped s x (steps s b n (steps s a (length a / 6) m))) (insn_second a b n h)

-- a count adds up, of whatever is counted
module _ (more : Insn → Machine → ℕ → ℕ) where
  counts_cursor : (k : ℕ) (s : Settings) (list : List ℕ) (n : ℕ) (m : Machine) (c : ℕ) → count_after more (with_cursor k s) list n m c ≡ count_after more s list n m c
  unfolding count_after
  counts_cursor k s list zero m c = refl
  counts_cursor k s list (suc n) m c =
      ap (λ (x : ℕ). x + over_column (more (insn_at list n) (steps (with_cursor k s) list n m)) c) (counts_cursor k s list n m c)
      ∙ ap (λ (x : Machine). count_after more s list n m c + over_column (more (insn_at list n) x) c) (steps_cursor k s list n m)

  counts_first : (s : Settings) (a b : List ℕ) (n : ℕ) (m : Machine) (c : ℕ) → 6 * n ≤ length a → count_after more s (a ++ b) n m c ≡ count_after more s a n m c
  unfolding count_after
  counts_first s a b zero m c h = refl
  counts_first s a b (suc n) m c h =
      ap (λ (x : ℕ). x + over_column (more (insn_at (a ++ b) n) (steps s (a ++ b) n m)) c) (counts_first s a b n m c (omega arith))
      ∙ ap (λ (x : Machine). count_after more s a n m c + over_column (more (insn_at (a ++ b) n) x) c) (steps_first s a b n m (omega arith))
      ∙ ap (λ (x : Insn). count_after more s a n m c + over_column (more x (steps s a n m)) c) (insn_first a b n (omega arith))

  counts_second : (s : Settings) (a b : List ℕ) (n : ℕ) (m : Machine) (c : ℕ) → length a % 6 ≡ 0
      → count_after more s (a ++ b) (length a / 6 + n) m c ≡ count_after more s a (length a / 6) m c + count_after more s b n (steps s a (length a / 6) m) c
  unfolding count_after
  counts_second s a b zero m c h =
      ap (λ (k : ℕ). count_after more s (a ++ b) k m c) (add-zero (length a / 6)) ∙ counts_first s a b (length a / 6) m c (omega arith)
      ∙ sym (add-zero (count_after more s a (length a / 6) m c))
  counts_second s a b (suc n) m c h =
      ap (λ (k : ℕ). count_after more s (a ++ b) k m c) (add-suc (length a / 6) n)
      ∙ ap (λ (x : ℕ). x + over_column (more (insn_at (a ++ b) (length a / 6 + n)) (steps s (a ++ b) (length a / 6 + n) m)) c) (counts_second s a b n m c h)
      ∙ cc (insn_second a b n h, steps_second s a b n m h)
      ∙ add_assoc (count_after more s a (length a / 6) m c) (count_after more s b n (steps s a (length a / 6) m) c)
      (over_column (more (insn_at b n) (steps s b n (steps s a (length a / 6) m))) c)

joined : (a b : List ℕ) → length a % 6 ≡ 0 → length (a ++ b) / 6 ≡ length a / 6 + length b / 6
joined a b h = rw length-append (omega arith)

-- the machine that a list leads to is the one that its first part leads to, taken on by the rest from the image, the Dst and the cursor reached
pub cut : (s : Settings) (a b image dst : List ℕ) → length a % 6 ≡ 0
    → finish s image dst (a ++ b) ≡ finish (with_cursor (finish s image dst a).cursor s) (finish s image dst a).image (finish s image dst a).dst b
unfolding with_cursor
cut s a b image dst h =
    ap (λ (k : ℕ). steps s (a ++ b) k (begin s image dst)) (joined a b h)
    ∙ steps_second s a b (count_of b) (begin s image dst) h
    ∙ sym (steps_cursor (finish s image dst a).cursor s b (count_of b) (finish s image dst a))

pub cut_counts : (more : Insn → Machine → ℕ → ℕ) (s : Settings) (a b image dst : List ℕ) (c : ℕ) → length a % 6 ≡ 0
    → get_or (counts_of more s image dst (a ++ b)) c 0
    ≡ get_or (counts_of more s image dst a) c 0
    + get_or (counts_of more (with_cursor (finish s image dst a).cursor s) (finish s image dst a).image (finish s image dst a).dst b) c 0
unfolding with_cursor
cut_counts more s a b image dst c h =
    counted_by (λ (x y z : ℕ). x ≡ y + z) (count_after more s (a ++ b) (count_of (a ++ b)) (begin s image dst)) _ _ c
    (λ l.
    ap (λ (k : ℕ). count_after more s (a ++ b) k (begin s image dst) c) (joined a b h)
    ∙ counts_second more s a b (count_of b) (begin s image dst) c h
    ∙ ap (λ (x : ℕ). count_after more s a (count_of a) (begin s image dst) c + x)
    (sym (counts_cursor more (finish s image dst a).cursor s b (count_of b) (finish s image dst a) c)))
    refl

-- what is stored does not depend on the settings' cursor
pub stores_cursor : (k : ℕ) (s : Settings) → stores_by (with_cursor k s) ≡ stores_by s
unfolding stores_of with_cursor
stores_cursor k s = refl

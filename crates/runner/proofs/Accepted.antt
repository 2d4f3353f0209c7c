-- What an accepted list, and an accepted run, were checked for, and that this is all: their answers are 0 exactly then. Assumes nothing.
use Rattle.std.proofs.Common.{◌≡◌, ℕ, zero, suc, ◌+◌, ◌*◌, ◌/◌, ◌%◌, ◌<◌, ◌≤◌, Bool, true, false, eqb, leb, List, length, sym, refl, ap, ◌∙◌, add-zero, zero-add, arith, eq-eqb, eqb-true, le-leb, leb-true}
use borrow.Author.Tests.{eqb-false}
use Rattle.lane.specs.declared.Settings.{Settings}
use Rattle.lane.specs.Words.{pick}
use Rattle.lane.specs.Refusals.{pass, settings_good, instruction_answer}
use Rattle.lane.proofs.Cases.{pick_true, pick_false}
use Rattle.lane.proofs.Accepted.{answer_small}
use Rattle.runner.specs.Checks.{Found}
use Rattle.runner.specs.Image.{image_good}
use Rattle.runner.specs.Checks.{insn_at, count_of, found, scan, scanned, list_limit, given_answer, first_answer, then_scanned, run_answer, list_answer}

-- ---- a check that is passed, and one that gives a number

pub passed : (t : Bool) (n rest : ℕ) → pass t (n + 1) rest ≡ 0 → (t ≡ true) × (rest ≡ 0)
unfolding pass pick
passed true n rest h = (refl, h)
passed false n rest h = absurd (none n h)
  where
    none : (n : ℕ) → n + 1 ≡ 0 → ⊥
    none n h = omega arith

pub pass_on : (t : Bool) (n rest : ℕ) → t ≡ true → pass t n rest ≡ rest
unfolding pass
pass_on t n rest h = pick_true t rest n h

pass_small : (t : Bool) (n rest : ℕ) → n < 10 → rest < 10 → pass t n rest < 10
unfolding pass pick
pass_small true n rest h k = k
pass_small false n rest h k = h

-- ---- 3, 4 and 5

pub record Given (s : Settings) (list : List ℕ) : Type 0 where
  pub settings_good_lem : settings_good s ≡ true
  pub six : length list % 6 ≡ 0
  pub few : length list / 6 ≤ list_limit

pub given : (s : Settings) (list : List ℕ) → given_answer s list ≡ 0 → Given s list
unfolding given_answer
given s list h =
    let a = passed (settings_good s) 2 (pass (eqb (length list % 6) 0) 4 (pass (leb (count_of list) list_limit) 5 0)) h in
    let b = passed (eqb (length list % 6) 0) 3 (pass (leb (count_of list) list_limit) 5 0) a.1 in
    let c = passed (leb (count_of list) list_limit) 4 0 b.1 in
    record {
      settings_good_lem = a.0;
      six = eqb-true (length list % 6) 0 b.0;
      few = leb-true (length list / 6) list_limit c.0;
    }

none_given : (s : Settings) (list : List ℕ) → Given s list → given_answer s list ≡ 0
unfolding given_answer
none_given s list g =
    pass_on (settings_good s) 3 _ g.settings_good_lem
    ∙ pass_on (eqb (length list % 6) 0) 4 _ (eq-eqb (length list % 6) 0 g.six)
    ∙ pass_on (leb (count_of list) list_limit) 5 0 (le-leb (count_of list) list_limit g.few)

pub given_short : (s : Settings) (list : List ℕ) → Given s list → length list ≤ 6 * list_limit
given_short s list g = omega (arith, g.six, g.few)

-- ---- 1 to 6

pub record Passed (s : Settings) (image dst list : List ℕ) : Type 0 where
  pub image_long : length image ≡ 768
  pub dst_long : length dst ≡ 16384
  pub list_given : Given s list
  pub image_good_lem : image_good image ≡ true

pub chosen : (n rest : ℕ) → pick (eqb n 0) rest n ≡ 0 → (n ≡ 0) × (rest ≡ 0)
unfolding pick
chosen n rest h = go (eqb n 0) refl h
  where
    go : (t : Bool) → eqb n 0 ≡ t → pick t rest n ≡ 0 → (n ≡ 0) × (rest ≡ 0)
    go true e k = (eqb-true n 0 e, k)
    go false e k = absurd (eqb-false n 0 e k)

pub first : (s : Settings) (image dst list : List ℕ) → first_answer s image dst list ≡ 0 → Passed s image dst list
unfolding first_answer
first s image dst list h =
    let a = passed (eqb (length image) 768) 0 (pass (eqb (length dst) 16384) 2 (pick (eqb (given_answer s list) 0) (pass (image_good image) 6 0) (given_answer s list))) h in
    let b = passed (eqb (length dst) 16384) 1 (pick (eqb (given_answer s list) 0) (pass (image_good image) 6 0) (given_answer s list)) a.1 in
    let c = chosen (given_answer s list) (pass (image_good image) 6 0) b.1 in
    let d = passed (image_good image) 5 0 c.1 in
    record {
      image_long = eqb-true (length image) 768 a.0;
      dst_long = eqb-true (length dst) 16384 b.0;
      list_given = given s list c.0;
      image_good_lem = d.0;
    }

pub none_first : (s : Settings) (image dst list : List ℕ) → Passed s image dst list → first_answer s image dst list ≡ 0
unfolding first_answer
none_first s image dst list p =
    pass_on (eqb (length image) 768) 1 _ (eq-eqb (length image) 768 p.image_long)
    ∙ pass_on (eqb (length dst) 16384) 2 _ (eq-eqb (length dst) 16384 p.dst_long)
    ∙ pick_true (eqb (given_answer s list) 0) (pass (image_good image) 6 0) (given_answer s list)
    (eq-eqb (given_answer s list) 0 (none_given s list p.list_given))
    ∙ pass_on (image_good image) 6 0 p.image_good_lem

-- ---- the instructions in turn

first_of : (t : Bool) (x : Found) (n p : ℕ) → (pick t x (found n p)).answer ≡ 0 → (t ≡ false → n ≡ 0 → ⊥) → (t ≡ true) × (x.answer ≡ 0)
unfolding pick
first_of true x n p h k = (refl, h)
first_of false x n p h k = absurd (k refl h)

scan_all : (list : List ℕ) (n k : ℕ) → (scan list k n).answer ≡ 0 → (j : ℕ) → j < n → instruction_answer true (insn_at list (k + j)) ≡ 0
unfolding scan
scan_all list zero k h j l = absurd (none j l)
  where
    none : (j : ℕ) → j < 0 → ⊥
    none j l = omega arith
scan_all list (suc n) k h j l =
    let r = first_of (eqb (instruction_answer true (insn_at list k)) 0) (scan list (k + 1) n) (instruction_answer true (insn_at list k)) k h (λ e z. eqb-false (instruction_answer true (insn_at list k)) 0 e z) in
    go j l (eqb-true (instruction_answer true (insn_at list k)) 0 r.0) (λ m q. scan_all list n (k + 1) r.1 m q)
  where
    go : (j : ℕ) → j < suc n → instruction_answer true (insn_at list k) ≡ 0
        → ((m : ℕ) → m < n → instruction_answer true (insn_at list (k + 1 + m)) ≡ 0)
        → instruction_answer true (insn_at list (k + j)) ≡ 0
    go zero l a b = ap (λ (x : ℕ). instruction_answer true (insn_at list x)) (add-zero k) ∙ a
    go (suc m) l a b = ap (λ (x : ℕ). instruction_answer true (insn_at list x)) (same k m) ∙ b m (omega arith)
      where
        same : (k m : ℕ) → k + suc m ≡ k + 1 + m
        same k m = omega arith

all_scan : (list : List ℕ) (n k : ℕ) → ((j : ℕ) → j < n → instruction_answer true (insn_at list (k + j)) ≡ 0) → scan list k n ≡ found 0 0
unfolding scan
all_scan list zero k h = refl
all_scan list (suc n) k h =
    pick_true (eqb (instruction_answer true (insn_at list k)) 0) (scan list (k + 1) n) (found (instruction_answer true (insn_at list k)) k)
    (eq-eqb (instruction_answer true (insn_at list k)) 0 (ap (λ (x : ℕ). instruction_answer true (insn_at list x)) (sym (add-zero k)) ∙ h 0 (omega arith)))
    ∙ all_scan list n (k + 1) (λ j l. ap (λ (x : ℕ). instruction_answer true (insn_at list x)) (same k j) ∙ h (suc j) (omega arith))
  where
    same : (k m : ℕ) → k + 1 + m ≡ k + suc m
    same k m = omega arith

-- every instruction of a list is accepted
abbrev pub Each : List ℕ → Type 0
Each list = (j : ℕ) → j < length list / 6 → instruction_answer true (insn_at list j) ≡ 0

each_scanned : (list : List ℕ) → (scanned list).answer ≡ 0 → Each list
each_scanned list h j l = ap (λ (x : ℕ). instruction_answer true (insn_at list x)) (sym (zero-add j)) ∙ scan_all list (length list / 6) 0 h j l

scanned_each : (list : List ℕ) → Each list → scanned list ≡ found 0 0
scanned_each list h = all_scan list (length list / 6) 0 (λ j l. ap (λ (x : ℕ). instruction_answer true (insn_at list x)) (zero-add j) ∙ h j l)

then_each : (n : ℕ) (list : List ℕ) → (then_scanned n list).answer ≡ 0 → (n ≡ 0) × Each list
unfolding then_scanned pick
then_each n list h = go (eqb n 0) refl h
  where
    go : (t : Bool) → eqb n 0 ≡ t → (pick t (scanned list) (found n 0)).answer ≡ 0 → (n ≡ 0) × Each list
    go true e k = (eqb-true n 0 e, each_scanned list k)
    go false e k = absurd (eqb-false n 0 e k)

each_then : (n : ℕ) (list : List ℕ) → n ≡ 0 → Each list → then_scanned n list ≡ found 0 0
unfolding then_scanned
each_then n list h k = pick_true (eqb n 0) (scanned list) (found n 0) (eq-eqb n 0 h) ∙ scanned_each list k

-- ---- a list alone

pub record Listed (s : Settings) (list : List ℕ) : Type 0 where
  pub checked : Given s list
  pub each : Each list

pub listed : (s : Settings) (list : List ℕ) → (list_answer s list).answer ≡ 0 → Listed s list
unfolding list_answer
listed s list h = let a = then_each (given_answer s list) list h in record { checked = given s list a.0; each = a.1 }

pub list_accepted : (s : Settings) (list : List ℕ) → Listed s list → list_answer s list ≡ found 0 0
unfolding list_answer
list_accepted s list l = each_then (given_answer s list) list (none_given s list l.checked) l.each

-- with settings out of range a list is not looked at
pub list_unset : (s : Settings) (list : List ℕ) → settings_good s ≡ false → list_answer s list ≡ found 3 0
unfolding list_answer then_scanned given_answer pass
list_unset s list h =
    rw (pick_false {X = ℕ} (settings_good s) (pick (eqb (length list % 6) 0) (pick (leb (count_of list) list_limit) 0 5) 4) 3 h)
    (pick_false {X = Found} (eqb 3 0) (scanned list) (found 3 0) refl)

-- and with good ones a list of whole instructions, within the limit, is checked by its instructions alone
pub list_scanned : (s : Settings) (list : List ℕ) → settings_good s ≡ true → length list % 6 ≡ 0 → length list / 6 ≤ list_limit
    → list_answer s list ≡ scanned list
unfolding list_answer then_scanned
list_scanned s list h k l =
    pick_true (eqb (given_answer s list) 0) (scanned list) (found (given_answer s list) 0)
    (eq-eqb (given_answer s list) 0 (none_given s list (record { settings_good_lem = h; six = k; few = l })))

-- ---- a run

pub record Accepted (s : Settings) (image dst list : List ℕ) : Type 0 where
  pub passed : Passed s image dst list
  pub each : Each list

pub accepted : (s : Settings) (image dst list : List ℕ) → (run_answer s image dst list).answer ≡ 0 → Accepted s image dst list
unfolding run_answer
accepted s image dst list h = let a = then_each (first_answer s image dst list) list h in record { passed = first s image dst list a.0; each = a.1 }

pub run_accepted : (s : Settings) (image dst list : List ℕ) → Accepted s image dst list → run_answer s image dst list ≡ found 0 0
unfolding run_answer
run_accepted s image dst list a = each_then (first_answer s image dst list) list (none_first s image dst list a.passed) a.each

itself : (n : ℕ) → pick (eqb n 0) 0 n ≡ n
unfolding pick
itself n = go (eqb n 0) refl
  where
    go : (t : Bool) → eqb n 0 ≡ t → pick t 0 n ≡ n
    go true e = sym (eqb-true n 0 e)
    go false e = refl

-- a run over a well formed image and a whole Dst is checked as its list is
pub run_listed : (s : Settings) (image dst list : List ℕ) → length image ≡ 768 → length dst ≡ 16384 → image_good image ≡ true
    → run_answer s image dst list ≡ list_answer s list
unfolding run_answer list_answer first_answer
run_listed s image dst list a b c =
    ap (λ (n : ℕ). then_scanned n list)
    (pass_on (eqb (length image) 768) 1 _ (eq-eqb (length image) 768 a)
    ∙ pass_on (eqb (length dst) 16384) 2 _ (eq-eqb (length dst) 16384 b)
    ∙ ap (λ (n : ℕ). pick (eqb (given_answer s list) 0) n (given_answer s list)) (pass_on (image_good image) 6 0 c)
    ∙ itself (given_answer s list))

-- ---- no check of a list gives 10 or 11

scan_small : (list : List ℕ) (n k : ℕ) → (scan list k n).answer < 10
unfolding scan pick
scan_small list zero k = omega arith
scan_small list (suc n) k =
    either (eqb (instruction_answer true (insn_at list k)) 0) (scan list (k + 1) n) (found (instruction_answer true (insn_at list k)) k)
    (scan_small list n (k + 1)) (answer_small true (insn_at list k))
  where
    either : (t : Bool) (x y : Found) → x.answer < 10 → y.answer < 10 → (pick t x y).answer < 10
    either true x y h k = h
    either false x y h k = k

pub list_small : (s : Settings) (list : List ℕ) → (list_answer s list).answer < 10
unfolding list_answer then_scanned given_answer pick
list_small s list = go (eqb (given_answer s list) 0)
  where
    go : (t : Bool) → (pick t (scanned list) (found (given_answer s list) 0)).answer < 10
    go true = scan_small list (length list / 6) 0
    go false =
        pass_small (settings_good s) 3 _ (omega arith)
        (pass_small (eqb (length list % 6) 0) 4 _ (omega arith) (pass_small (leb (count_of list) list_limit) 5 0 (omega arith) (omega arith)))

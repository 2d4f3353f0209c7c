-- Register traffic: what a row of masks adds to the counters, and the stores that are owed to them. Assumes nothing.
use Rattle.std.proofs.Common.{◌≡◌, ℕ, ◌+◌, ◌*◌, ◌%◌, ◌^◌, ◌<◌, ◌≤◌, Bool, true, false, ◌&&◌, ◌||◌, eqb, ltb, List, length, get_or, sym, refl, ap, ◌∙◌, subst, le_trans, le_of_eq, add-mul, add_comm, one-mul, mul-zero, zero-add, zero-mul, mul-one, mul-add, arith, eqb-true}
use mathlib.Core.Bool.{false≢true}
use lib.Bits.{bit_and, and_comm, and_mask, and_zero_r}
use Rattle.lane.specs.declared.Settings.{Settings}
use Rattle.lane.specs.declared.Insn.{Insn}
use Rattle.lane.specs.Words.{pick, flag_of, Stores, build, register_stores}
use Rattle.lane.specs.Compute.{computes}
use Rattle.lane.specs.Rule.{stores_of}
use Rattle.lane.proofs.Stores.{get_d_build}
use Rattle.lane.proofs.Counted.{flag_small, once_count}
use Rattle.runner.specs.Image.{lane_in}
use Rattle.runner.specs.Checks.{list_limit}
use Rattle.runner.specs.Run.{Machine, even_cell, odd_cell, stores_in, stores_by, over_column, count_after}
use Rattle.runner.specs.PrivateRows.{storing, full, marked, MarksAt, MasksAt, Masks, Enabled}
use Rattle.runner.specs.PrivateCompute.{sets_flags}
use Rattle.runner.specs.PrivateSteps.{counted, Room, times, enabled_in, with_owed, Tallied}
use Rattle.runner.proofs.Masks.{marks}
use Rattle.runner.proofs.Enabled.{Quiet, quiet_lane}
use Rattle.runner.proofs.Counts.{counted_same, counted_none, counted_twice, length_counted, few_stores}

-- ---- masks as numbers

mask_weight : (mask w : ℕ) (t : Bool) → w < 2 ^ 32 → mask ≡ full t → bit_and mask w ≡ w * flag_of t
unfolding full flag_of pick
mask_weight mask w true l e =
    ap (λ (x : ℕ). bit_and x w) e ∙ and_comm 0xFFFFFFFF w ∙ and_mask w 32 ∙ whole w l ∙ sym (mul-one w)
  where
    whole : (w : ℕ) → w < 2 ^ 32 → w % 2 ^ 32 ≡ w
    whole w l = omega arith
mask_weight mask w false l e = ap (λ (x : ℕ). bit_and x w) e ∙ and_comm 0 w ∙ and_zero_r w ∙ sym (mul-zero w)

-- a count under masks is one of their tests
pub weighed : (t before counts : List ℕ) (at w : ℕ) (e : ℕ → Bool) → w < 2 ^ 32 → MarksAt at e t
    → counts ≡ counted before (λ L. bit_and (get_or t (at + L) 0) w)
    → counts ≡ counted before (times w e)
weighed t before counts at w e l m h = h ∙ counted_same before _ _ (λ L k. mask_weight (get_or t (at + L) 0) w (e L) l (m L k))

marked_is : (t : List ℕ) (at : ℕ) (e : ℕ → Bool) → MarksAt at e t → (n : ℕ) → n < 32 → marked t (at + n) ≡ e n
marked_is t at e m n l = ap (λ (x : ℕ). eqb x 0xFFFFFFFF) (m n l) ∙ marks (e n)

pub told : (t before counts : List ℕ) (at w : ℕ) (e : ℕ → Bool) → MarksAt at e t
    → counts ≡ counted before (λ L. w * flag_of (marked t (at + L)))
    → counts ≡ counted before (times w e)
told t before counts at w e m h = h ∙ counted_same before _ _ (λ L k. ap (λ (b : Bool). w * flag_of b) (marked_is t at e m L k))

-- masks, whatever they are of
pub are_marks : (t : List ℕ) (at : ℕ) (e : ℕ → Bool) → MarksAt at e t → MasksAt at t
are_marks t at e m n l = m n l ∙ ap full (sym (marked_is t at e m n l))

pub some_marks : (t : List ℕ) (at : ℕ) → at ≤ 96 → Masks 128 t → MasksAt at t
unfolding Masks
some_marks t at h m n l = m (at + n) (omega arith)

pub fits : (at : ℕ) (t : List ℕ) → at ≤ 96 → length t ≡ 128 → at + 32 ≤ length t
fits at t h e = omega arith

-- a mask taken away is 1 added
mask_less : (r a m : ℕ) (t : Bool) → (r + m) % 2 ^ 32 ≡ a → r < 2 ^ 32 → a < 2 ^ 31 → m ≡ full t → r ≡ a + flag_of t
unfolding full flag_of pick
mask_less r a m true e l k h = omega arith
mask_less r a m false e l k h = omega arith

pub four_less : (a b c d : ℕ) (p q r s : Bool) (x y z u : ℕ) → u < 2 ^ 32 → x < 2 ^ 32 → y < 2 ^ 32 → z < 2 ^ 32 → a ≡ full p → b ≡ full q → c ≡ full r → d ≡ full s
    → (x + a) % 2 ^ 32 ≡ 0
    → (y + b) % 2 ^ 32 ≡ x
    → (z + c) % 2 ^ 32 ≡ y
    → (u + d) % 2 ^ 32 ≡ z
    → u ≡ flag_of s + flag_of r + flag_of q + flag_of p
four_less a b c d p q r s x y z u hu hx hy hz ea eb ec ed e f g h = last third ∙ turned (flag_of p) (flag_of q) (flag_of r) (flag_of s)
  where
    first : x ≡ flag_of p
    first = mask_less x 0 a p e hx (omega arith) ea ∙ zero-add (flag_of p)

    second : y ≡ flag_of p + flag_of q
    second = mask_less y x b q f hy (omega (arith, first, flag_small p)) eb ∙ ap (λ (n : ℕ). n + flag_of q) first

    third : z ≡ flag_of p + flag_of q + flag_of r
    third = mask_less z y c r g hz (omega (arith, second, flag_small p, flag_small q)) ec ∙ ap (λ (n : ℕ). n + flag_of r) second

    last : z ≡ flag_of p + flag_of q + flag_of r → u ≡ flag_of p + flag_of q + flag_of r + flag_of s
    last k = mask_less u z d s h hu (omega (arith, k, flag_small p, flag_small q, flag_small r)) ed ∙ ap (λ (n : ℕ). n + flag_of s) k

    turned : (a b c d : ℕ) → a + b + c + d ≡ d + c + b + a
    turned a b c d = omega arith

flag_times : (n : ℕ) (t : Bool) → n * flag_of t ≤ n
unfolding flag_of pick
flag_times n true = le_of_eq (mul-one n)
flag_times n false = omega arith

pub times_few : (n : ℕ) (e : ℕ → Bool) (c : ℕ) → over_column (times n e) c ≤ 4 * n
times_few n e c = four _ _ _ _ (flag_times n (e c)) (flag_times n (e (8 + c))) (flag_times n (e (16 + c))) (flag_times n (e (24 + c)))
  where
    four : (a b c d : ℕ) → a ≤ n → b ≤ n → c ≤ n → d ≤ n → a + b + c + d ≤ 4 * n
    four a b c d p q r s = omega arith

-- so many of each of four
four_times : (w a b c d : ℕ) → w * (a + b + c + d) ≡ w * a + w * b + w * c + w * d
four_times w a b c d =
    mul-add w (a + b + c) d ∙ ap (λ (n : ℕ). n + w * d) (mul-add w (a + b) c ∙ ap (λ (n : ℕ). n + w * c) (mul-add w a b))

-- a column's count is at most 4 of them, and so many times it is added to a counter
pub column_few : (each n : ℕ) (e : ℕ → Bool) (c : ℕ) → n ≡ over_column (λ L. flag_of (e L)) c → each * n ≤ 4 * each
column_few each n e c h = rw h (le_trans (le_of_eq (four_times each (flag_of (e c)) (flag_of (e (8 + c))) (flag_of (e (16 + c))) (flag_of (e (24 + c))))) (times_few each e c))

pub each_column : (each n x : ℕ) (e : ℕ → Bool) (c : ℕ) → n ≡ over_column (λ L. flag_of (e L)) c → x + each * n ≡ x + over_column (times each e) c
each_column each n x e c h =
    ap (λ (k : ℕ). x + each * k) h ∙ ap (λ (k : ℕ). x + k) (four_times each (flag_of (e c)) (flag_of (e (8 + c))) (flag_of (e (16 + c))) (flag_of (e (24 + c))))

-- where the code looks for the masks of a row
pub first_mask : (t : List ℕ) (w n : ℕ) → bit_and (get_or t n 0) w ≡ bit_and (get_or t (0 + n) 0) w
first_mask t w n = ap (λ (k : ℕ). bit_and (get_or t k 0) w) (sym (zero-add n))

-- the masks of a row, and those of the lanes that are enabled
pub row_marks : (t : List ℕ) (e : ℕ → Bool) → ((n : ℕ) → n < 32 → get_or t n 0 ≡ full (e n)) → MarksAt 0 e t
row_marks t e h n l = ap (λ (k : ℕ). get_or t k 0) (zero-add n) ∙ h n l

pub enabled_marks : (go image : List ℕ) → Enabled go image → MarksAt 0 (enabled_in image) go
enabled_marks go image g = row_marks go (enabled_in image) g.mask_is

-- one in each, and none
pub times_one : (counts : List ℕ) (e : ℕ → Bool) (f : ℕ → ℕ) → ((L : ℕ) → L < 32 → flag_of (e L) ≡ f L) → counted counts (times 1 e) ≡ counted counts f
times_one counts e f h = counted_same counts _ _ (λ L l. one-mul (flag_of (e L)) ∙ h L l)

pub times_none : (counts : List ℕ) (e : ℕ → Bool) → length counts ≡ 8 → counts ≡ counted counts (times 0 e)
times_none counts e h = counted_none counts (times 0 e) h (λ L l. zero-mul (flag_of (e L)))

-- ---- operations

both_flags : (s t : Bool) → flag_of (s && t) ≡ flag_of s * flag_of t
unfolding flag_of pick
both_flags true true = refl
both_flags true false = refl
both_flags false true = refl
both_flags false false = refl

-- what was owed, and n more to each enabled lane
owed_sum : (image stores : List ℕ) (owed n : ℕ) → with_owed (owed + n) stores image ≡ counted (with_owed owed stores image) (times n (enabled_in image))
owed_sum image stores owed n =
    counted_same stores _ _ (λ L l. add-mul owed n (flag_of (enabled_in image L))) ∙ sym (counted_twice stores (times owed (enabled_in image)) (times n (enabled_in image)))

-- the lanes that are enabled stay
owed_kept : (image after stores : List ℕ) (owed : ℕ) → ((L : ℕ) → L < 32 → enabled_in after L ≡ enabled_in image L) → with_owed owed stores after ≡ with_owed owed stores image
owed_kept image after stores owed h = counted_same stores _ _ (λ L l. ap (λ (t : Bool). owed * flag_of t) (h L l))

module _ (image after : List ℕ) (made : ℕ → Stores) (owed : ℕ) (stores : List ℕ) (e : after ≡ storing image made) where
  -- an operation that leaves the flags and counts its stores
  pub counted_itself : (stores' : List ℕ) → ((L : ℕ) → Quiet (made L)) → stores' ≡ counted stores (λ L. register_stores (made L))
      → Tallied image after (λ L. register_stores (made L)) owed stores owed stores'
  counted_itself stores' q h =
      record {
        sum_is =
            owed_kept image after stores' owed (λ L l. quiet_lane image after made L l (q L) e)
            ∙ ap (λ (x : List ℕ). counted x (times owed (enabled_in image))) h
            ∙ counted_twice stores (λ L. register_stores (made L)) (times owed (enabled_in image))
            ∙ counted_same stores _ _ (λ L l. add_comm (register_stores (made L)) (times owed (enabled_in image) L))
            ∙ sym (counted_twice stores (times owed (enabled_in image)) (λ L. register_stores (made L)));
        few = omega arith;
        eight = ap length h ∙ length_counted stores (λ L. register_stores (made L));
      }

-- one row of masks, of both images: the same lanes are enabled
pub same_masks : (go image after : List ℕ) → Enabled go image → Enabled go after → (L : ℕ) → L < 32 → enabled_in after L ≡ enabled_in image L
same_masks go image after g h L l =
    sym (marks (enabled_in after L)) ∙ ap (λ (x : ℕ). eqb x 0xFFFFFFFF) (sym (h.mask_is L l) ∙ g.mask_is L l) ∙ marks (enabled_in image L)

-- one that leaves them enabled and stores once in each, for vd below 8
pub noted : (image after : List ℕ) (made : ℕ → Stores) (owed : ℕ) (stores : List ℕ) (vd due : ℕ) → length stores ≡ 8
    → ((L : ℕ) → L < 32 → enabled_in after L ≡ enabled_in image L)
    → ((L : ℕ) → register_stores (made L) ≡ flag_of (computes vd (lane_in image L)))
    → due ≡ owed + flag_of (ltb vd 8)
    → Tallied image after (λ L. register_stores (made L)) owed stores due stores
noted image after made owed stores vd due l q c d =
    record {
      sum_is =
          owed_kept image after stores due q
          ∙ ap (λ (n : ℕ). with_owed n stores image) d
          ∙ owed_sum image stores owed (flag_of (ltb vd 8))
          ∙ counted_same (with_owed owed stores image) _ _ (λ L l. sym (c L ∙ both_flags (ltb vd 8) (enabled_in image L)));
      few = omega (arith, flag_small (ltb vd 8));
      eight = l;
    }

-- one that stores to no register, and leaves the image
pub nothing_made : (image : List ℕ) (more : ℕ → ℕ) (owed : ℕ) (stores : List ℕ) → length stores ≡ 8 → ((L : ℕ) → more L ≡ 0)
    → Tallied image image more owed stores owed stores
nothing_made image more owed stores l h =
    record {
      sum_is = counted_none (with_owed owed stores image) more (length_counted stores (times owed (enabled_in image))) (λ L k. h L);
      few = omega arith;
      eight = l;
    }

-- the same of what comes to the same
pub tallied_same : (image after : List ℕ) (f g : ℕ → ℕ) (owed : ℕ) (stores : List ℕ) (due : ℕ) (stores' : List ℕ) → ((L : ℕ) → f L ≡ g L)
    → Tallied image after f owed stores due stores'
    → Tallied image after g owed stores due stores'
tallied_same image after f g owed stores due stores' h t =
    record { sum_is = t.sum_is ∙ counted_same (with_owed owed stores image) f g (λ L l. h L); few = t.few; eight = t.eight }

-- ---- an operation that sets flags

-- one of three
pub by_op : (P : ℕ → Type 0) → P 6 → P 12 → P 13 → (op : ℕ) → sets_flags op ≡ true → P op
by_op P p q r op h = go (eqb op 6) (eqb op 12) (eqb op 13) refl refl refl h
  where
    go : (s t u : Bool) → eqb op 6 ≡ s → eqb op 12 ≡ t → eqb op 13 ≡ u → (s || (t || u)) ≡ true → P op
    go true t u e f g k = subst P (sym (eqb-true op 6 e)) p
    go false true u e f g k = subst P (sym (eqb-true op 12 f)) q
    go false false true e f g k = subst P (sym (eqb-true op 13 g)) r
    go false false false e f g k = absurd (false≢true k)

-- it stores once in each lane that is enabled, for vd below 8
once_flagged : (s : Settings) (i : Insn) (a : ℕ) (image dst : List ℕ) (L : ℕ) → sets_flags i.op ≡ true
    → stores_in s i a image dst L ≡ times (flag_of (ltb i.vd 8)) (enabled_in image) L
once_flagged s i a image dst L h =
    by_op (λ op. register_stores (stores_of op s a i L (lane_in image (L % 8)) (even_cell dst a L) (odd_cell dst a L) (lane_in image L)) ≡ flag_of (computes i.vd (lane_in image L)))
    (once_count 6 s a i L _ _ _ (lane_in image L) refl refl refl refl refl) (once_count 12 s a i L _ _ _ (lane_in image L) refl refl refl refl refl)
    (once_count 13 s a i L _ _ _ (lane_in image L) refl refl refl refl refl) i.op h
    ∙ both_flags (ltb i.vd 8) (enabled_in image L)

-- and all that is owed is counted before it, with its own: nothing is owed then, whichever lanes are enabled
pub settled : (s : Settings) (i : Insn) (a : ℕ) (image dst after go : List ℕ) (owed : ℕ) (stores stores' : List ℕ) → sets_flags i.op ≡ true → Enabled go image
    → ((e : ℕ → Bool) → MarksAt 0 e go → stores' ≡ counted stores (times (owed + flag_of (ltb i.vd 8)) e))
    → Tallied image after (stores_in s i a image dst) owed stores 0 stores'
settled s i a image dst after go owed stores stores' f g h =
    record {
      sum_is =
          sym (times_none stores' (enabled_in after) eight) ∙ all ∙ owed_sum image stores owed (flag_of (ltb i.vd 8))
          ∙ counted_same (with_owed owed stores image) _ _ (λ L l. sym (once_flagged s i a image dst L f));
      few = omega arith;
      eight = eight;
    }
  where
    all : stores' ≡ with_owed (owed + flag_of (ltb i.vd 8)) stores image
    all = h (enabled_in image) (enabled_marks go image g)

    eight : length stores' ≡ 8
    eight = ap length all ∙ length_counted stores (times (owed + flag_of (ltb i.vd 8)) (enabled_in image))

-- ---- room

count_at : (stores : List ℕ) (f : ℕ → ℕ) (c : ℕ) → c < 8 → get_or (counted stores f) c 0 ≡ get_or stores c 0 + over_column f c
unfolding counted
count_at stores f c l = get_d_build 8 (λ c. get_or stores c 0 + over_column f c) c l

-- the counters hold no more than the list's stores, and so they have room for what is owed and an instruction more
pub room_owed : (s : Settings) (list : List ℕ) (k : ℕ) (m : Machine) (image stores : List ℕ) (owed : ℕ) → k ≤ list_limit → owed ≤ k → length stores ≡ 8
    → with_owed owed stores image ≡ build 8 (count_after (stores_by s) s list k m)
    → Room (4 * owed + 28) stores
room_owed s list k m image stores owed l few eight inv =
    record {
      eight = eight;
      free =
          λ c h.
          under (get_or stores c 0) (over_column (times owed (enabled_in image)) c) (count_after (stores_by s) s list k m c)
          (sym (count_at stores (times owed (enabled_in image)) c h) ∙ ap (λ (x : List ℕ). get_or x c 0) inv ∙ get_d_build 8 (count_after (stores_by s) s list k m) c h)
          (few_stores s list k m c);
    }
  where
    under : (x y z : ℕ) → x + y ≡ z → z ≤ k * 16 → x + (4 * owed + 28) < 2 ^ 32
    under x y z p q = omega arith

-- A walk's steps: one instruction as a list of its own, an entry put together and put into its store, and what an entry brings back. Assumes nothing.
use Rattle.std.proofs.Common.{◌≡◌, ℕ, ◌+◌, ◌-◌, ◌*◌, ◌/◌, ◌<◌, ◌≤◌, Bool, true, ◌&&◌, eqb, ltb, leb, List, [], ◌∷◌, ◌++◌, length, get_or, take, drop, replicate, sym, refl, ap, ◌∙◌, append_assoc, add-zero, zero-add, append-nil, arith, length-append, length-drop, length-take-le, get_or-drop, take_all, get_or-take, drop-drop, ltb-true, lt-ltb, eq-eqb, ne_eqb, leb-true}
use lib.ListN.{get_or-replicate}
use lib.Seq.{paste, take-paste, length-paste, take-length, take_at}
use borrow.Rule.Slice.PartMut.{put_mid}
use Rattle.std.proofs.lemmas.Slice.{put_mid-paste}
use Rattle.std.proofs.lemmas.List.Edits.{paste_all}
use Rattle.lane.specs.declared.Settings.{Settings}
use Rattle.lane.specs.declared.Insn.{Insn}
use Rattle.lane.specs.Words.{pick, build}
use Rattle.lane.specs.Load.{address}
use Rattle.lane.specs.Store.{with_cell, stored_cell}
use Rattle.lane.proofs.Cases.{pick_true, pick_false}
use Rattle.lane.proofs.Stores.{length_build, build_same}
use Rattle.lane.proofs.Tables.{and_left, and_right}
use Rattle.runner.specs.Checks.{insn_at, count_of}
use Rattle.runner.specs.Run.{Machine, even_cell, odd_cell, with_cells, stepped, steps}
use Rattle.runner.specs.PrivateRows.{row, full, marked, Masks}
use Rattle.runner.specs.PrivateLoad.{odd_at, odd_in, cell_of}
use Rattle.runner.specs.PrivateStore.{stored_by}
use Rattle.runner.specs.PrivateSteps.{starting, Through}
use Rattle.runner.specs.Walk as Walk
use Rattle.runner.proofs.Accepted.{Passed, passed, chosen, pass_on, first, none_first}
use Rattle.runner.proofs.Dsts.{cells_same}
use Rattle.runner.proofs.Masks.{marks, masks_of}
use Rattle.runner.proofs.Filled.{operand}
use Rattle.runner.proofs.LoadRows.{cell_is}

-- ---- refusals

-- 1 to 6 are not given exactly if a run's are not, and the walk's cursor is in its range
pub lent_passed : (s : Settings) (list : List ℕ) (m : Machine) → Walk.lent_answer s list m ≡ 0 → Passed s m.image m.dst list × (m.cursor < 1024)
unfolding Walk.lent_answer
lent_passed s list m h =
    let a = passed (eqb (length m.image) 768) 0 _ h in
    let b = passed (eqb (length m.dst) 16384) 1 _ a.1 in
    let c = passed (ltb m.cursor 1024) 2 _ b.1 in
    (first s m.image m.dst list c.1, ltb-true m.cursor 1024 c.0)

pub passed_lent : (s : Settings) (list : List ℕ) (m : Machine) → Passed s m.image m.dst list → m.cursor < 1024 → Walk.lent_answer s list m ≡ 0
unfolding Walk.lent_answer
passed_lent s list m p l =
    pass_on (eqb (length m.image) 768) 1 _ (eq-eqb (length m.image) 768 p.image_long)
    ∙ pass_on (eqb (length m.dst) 16384) 2 _ (eq-eqb (length m.dst) 16384 p.dst_long)
    ∙ pass_on (ltb m.cursor 1024) 3 _ (lt-ltb m.cursor 1024 l)
    ∙ none_first s m.image m.dst list p

-- the first of two tests that hold
pub under : (k n : ℕ) (t : Bool) → (ltb k n && t) ≡ true → k < n
under k n t h = ltb-true k n (and_left (ltb k n) t h)

-- a check that finds nothing is followed by the next
pub first_none : (one rest : ℕ) → one ≡ 0 → Walk.first_of one rest ≡ rest
first_none one rest z = pick_true (eqb one 0) rest one (eq-eqb one 0 z)

-- what a call answers: 1 to 6 where one of these is given, else what comes after them
module _ (s : Settings) (list : List ℕ) (x : Walk.Standing) (lent : ℕ) (e : lent ≡ Walk.lent_answer s list x.machine) where
  first_some : (rest : ℕ) → (lent ≡ 0 → ⊥) → lent ≡ Walk.first_of (Walk.lent_answer s list x.machine) rest
  first_some rest n =
      e ∙ sym (pick_false (eqb (Walk.lent_answer s list x.machine) 0) rest _ (ne_eqb (Walk.lent_answer s list x.machine) 0 (λ z. n (e ∙ z))))

  pub lent_given : (c : Walk.Call) → (lent ≡ 0 → ⊥) → lent ≡ Walk.call_answer c s list x
  unfolding Walk.call_answer
  lent_given Walk.forward n = first_some _ n
  lent_given Walk.back n = first_some _ n

  pub next_given : (answer : ℕ) → lent ≡ 0 → answer ≡ Walk.next_answer x.done list (length x.store) → answer ≡ Walk.call_answer Walk.forward s list x
  unfolding Walk.call_answer
  next_given answer z q = q ∙ sym (first_none (Walk.lent_answer s list x.machine) _ (sym e ∙ z))

  pub last_given : (answer : ℕ) → lent ≡ 0 → answer ≡ Walk.last_answer x.done list (length x.store) → answer ≡ Walk.call_answer Walk.back s list x
  unfolding Walk.call_answer
  last_given answer z q = q ∙ sym (first_none (Walk.lent_answer s list x.machine) _ (sym e ∙ z))

-- what a step that is not refused was checked for
pub record Forward (s : Settings) (list : List ℕ) (x : Walk.Standing) : Type 0 where
  pub passed : Passed s x.machine.image x.machine.dst list
  pub cursor : x.machine.cursor < 1024
  pub next : x.done < count_of list
  pub room : 802 * x.done + 802 ≤ length x.store

pub record Back (s : Settings) (list : List ℕ) (x : Walk.Standing) : Type 0 where
  pub passed : Passed s x.machine.image x.machine.dst list
  pub some : 1 ≤ x.done
  pub few : x.done ≤ count_of list
  pub room : 802 * x.done ≤ length x.store

pub forward_good : (s : Settings) (list : List ℕ) (x : Walk.Standing) → Walk.call_answer Walk.forward s list x ≡ 0 → Forward s list x
unfolding Walk.call_answer Walk.next_answer
forward_good s list x h =
    let a = chosen (Walk.lent_answer s list x.machine) _ h in
    let p = lent_passed s list x.machine a.0 in
    let b = passed (Walk.may_forward x.done (count_of list) (length x.store)) 11 _ a.1 in
    record {
      passed = p.0;
      cursor = p.1;
      next = under x.done (count_of list) (leb (802 * x.done + 802) (length x.store)) b.0;
      room = leb-true (802 * x.done + 802) (length x.store) (and_right (ltb x.done (count_of list)) (leb (802 * x.done + 802) (length x.store)) b.0);
    }

pub back_good : (s : Settings) (list : List ℕ) (x : Walk.Standing) → Walk.call_answer Walk.back s list x ≡ 0 → Back s list x
unfolding Walk.call_answer Walk.last_answer
back_good s list x h =
    let a = chosen (Walk.lent_answer s list x.machine) _ h in
    let b = (passed (Walk.may_back x.done (count_of list) (length x.store)) 11 _ a.1).0 in
    let c = and_left (leb 1 x.done && leb x.done (count_of list)) (leb (802 * x.done) (length x.store)) b in
    record {
      passed = (lent_passed s list x.machine a.0).0;
      some = leb-true 1 x.done (and_left (leb 1 x.done) (leb x.done (count_of list)) c);
      few = leb-true x.done (count_of list) (and_right (leb 1 x.done) (leb x.done (count_of list)) c);
      room = leb-true (802 * x.done) (length x.store) (and_right (leb 1 x.done && leb x.done (count_of list)) (leb (802 * x.done) (length x.store)) b);
    }

-- a call's promise, from what it answered
module _ (c : Walk.Call) (s : Settings) (list : List ℕ) (x : Walk.Standing) (answer : ℕ) (e : answer ≡ Walk.call_answer c s list x) where
  pub called_done : (y : Walk.Standing) → answer ≡ 0 → y ≡ Walk.moved c s list x → Walk.Called c s list x 0 y
  called_done y h q =
      record {
        answer_is = sym h ∙ e;
        after_is = q ∙ sym (pick_true (eqb (Walk.call_answer c s list x) 0) (Walk.moved c s list x) x (eq-eqb (Walk.call_answer c s list x) 0 (sym e ∙ h)));
      }

  pub called_refused : (answer ≡ 0 → ⊥) → Walk.Called c s list x answer x
  called_refused h =
      record {
        answer_is = e;
        after_is = sym (pick_false (eqb (Walk.call_answer c s list x) 0) (Walk.moved c s list x) x (ne_eqb (Walk.call_answer c s list x) 0 (λ z. h (e ∙ z))));
      }

-- ---- one instruction, as a list of its own

-- the six words of instruction k
abbrev pub six_of : List ℕ → ℕ → List ℕ
six_of list k = take 6 (drop (6 * k) list)

six_at : (list : List ℕ) (k j : ℕ) → j < 6 → get_or (six_of list k) (6 * 0 + j) 0 ≡ get_or list (6 * k + j) 0
six_at list k j h =
    ap (λ (n : ℕ). get_or (six_of list k) n 0) (zero-add j) ∙ get_or-take 6 (drop (6 * k) list) j 0 h ∙ get_or-drop (6 * k) list j 0

six_insn : (list : List ℕ) (k : ℕ) → insn_at (six_of list k) 0 ≡ insn_at list k
unfolding insn_at
six_insn list k =
    cc (
      six_at list k 0 (omega arith),
      six_at list k 1 (omega arith),
      six_at list k 2 (omega arith),
      six_at list k 3 (omega arith),
      six_at list k 4 (omega arith),
      six_at list k 5 (omega arith),
      add-zero (6 * k),
    )

six_one : (list : List ℕ) (k : ℕ) → 6 * k + 6 ≤ length list → count_of (six_of list k) ≡ 1
six_one list k h = omega (arith, length-take-le 6 (drop (6 * k) list) (omega (arith, length-drop (6 * k) list)))

six_steps : (s : Settings) (list : List ℕ) (k : ℕ) (m : Machine) → 6 * k + 6 ≤ length list
    → steps s (six_of list k) (count_of (six_of list k)) m ≡ stepped s (insn_at list k) m
unfolding steps
six_steps s list k m h =
    ap (λ (n : ℕ). steps s (six_of list k) n m) (six_one list k h) ∙ ap (λ (i : Insn). stepped s i m) (six_insn list k)

-- ---- an entry

-- words put in front
put_front : (e e₁ a : List ℕ) → length a ≤ length e → e₁ ≡ paste e 0 a (length a) → take (length a) e₁ ≡ a
put_front e e₁ a h p =
    ap (λ (n : ℕ). take n e₁) (sym (zero-add (length a))) ∙ ap (take (0 + length a)) p
    ∙ take-paste e 0 a (length a) (omega arith) (omega arith) ∙ take-length a

-- what three puts, one after the other, make of a part
pub three_puts : (e e₁ e₂ e₃ a b c : List ℕ) → length e ≡ length a + length b + length c
    → e₁ ≡ paste e 0 a (length a)
    → e₂ ≡ paste e₁ (length a) b (length b)
    → e₃ ≡ paste e₂ (length a + length b) c (length c)
    → e₃ ≡ (a ++ b) ++ c
three_puts e e₁ e₂ e₃ a b c h p q r =
    sym (take_all (length a + length b + length c) e₃ (omega (arith, long₃)))
    ∙ ap (take (length a + length b + length c)) r
    ∙ take-paste e₂ (length a + length b) c (length c) (omega (arith, long₂)) (omega arith)
    ∙ ap (λ (x : List ℕ). x ++ take (length c) c) front₂ ∙ ap (λ (x : List ℕ). (a ++ b) ++ x) (take-length c)
  where
    long₁ : length e₁ ≡ length e
    long₁ = ap length p ∙ length-paste e 0 a (length a) (omega arith) (omega arith)

    long₂ : length e₂ ≡ length e
    long₂ = ap length q ∙ length-paste e₁ (length a) b (length b) (omega (arith, long₁)) (omega arith) ∙ long₁

    long₃ : length e₃ ≡ length e
    long₃ = ap length r ∙ length-paste e₂ (length a + length b) c (length c) (omega (arith, long₂)) (omega arith) ∙ long₂

    front₂ : take (length a + length b) e₂ ≡ a ++ b
    front₂ =
        ap (take (length a + length b)) q ∙ take-paste e₁ (length a) b (length b) (omega (arith, long₁)) (omega arith)
        ∙ ap (λ (x : List ℕ). x ++ take (length b) b) (put_front e e₁ a (omega arith) p) ∙ ap (λ (x : List ℕ). a ++ x) (take-length b)

front_none : (e : List ℕ) → take 0 e ≡ []
front_none [] = refl
front_none (x ∷ e) = refl

-- three copies, one after the other, are three puts of an entry's parts
pub three_copies : (e image pair cells : List ℕ) → length e ≡ 802 → length image ≡ 768 → length pair ≡ 2 → length cells ≡ 32
    → put_mid 770 32 (put_mid 768 2 (image ++ drop 768 e) pair) cells ≡ image ++ (pair ++ cells)
three_copies e image pair cells he hi hp hc =
    three_puts e first second (put_mid 770 32 second cells) image pair cells (omega (arith, he, hi, hp, hc))
    (ap (λ (k : ℕ). image ++ drop k e) past ∙ ap (λ (x : List ℕ). x ++ (image ++ drop (0 + length image) e)) (sym (front_none e)) ∙ sym (paste_all e 0 image (length image) refl))
    (put_mid-paste 768 2 first pair pair (length pair) refl hp refl ∙ ap (λ (k : ℕ). paste first k pair (length pair)) (sym hi))
    (put_mid-paste 770 32 second cells cells (length cells) refl hc refl ∙ ap (λ (k : ℕ). paste second k cells (length cells)) past_both)
    ∙ append_assoc image pair cells
  where
    first : List ℕ
    first = image ++ drop 768 e

    second : List ℕ
    second = put_mid 768 2 first pair

    past : 768 ≡ 0 + length image
    past = omega (arith, hi)

    past_both : 770 ≡ length image + length pair
    past_both = omega (arith, hi, hp)

-- ---- the cells of an entry

pub kept_store : (op a : ℕ) (image dst x odds : List ℕ) → op ≡ 16 → odds ≡ odd_in image a
    → ((odd : ℕ → Bool) → odds ≡ row (λ L. full (odd L)) → x ≡ row (λ L. cell_of dst (64 * (a / 4)) (odd L) L))
    → x ≡ Walk.kept_cells op a image dst
unfolding Walk.kept_cells odd_in row
kept_store op a image dst x odds o e h =
    h (odd_at image a) e
    ∙ build_same 32 _ _
    (λ L l. cell_is dst a L (odd_at image a L) ∙ sym (pick_true (eqb op 16) (pick (odd_at image a L) (odd_cell dst a L) (even_cell dst a L)) 0 (eq-eqb op 16 o)))

pub kept_none : (op a : ℕ) (image dst : List ℕ) → (op ≡ 16 → ⊥) → build 32 (λ L. 0) ≡ Walk.kept_cells op a image dst
unfolding Walk.kept_cells
kept_none op a image dst n = build_same 32 _ _ (λ L l. sym (pick_false (eqb op 16) _ 0 (ne_eqb op 16 n)))

-- and back: every lane stores its word's low half
pub image_long : (image entry : List ℕ) → length entry ≡ 802 → image ≡ Walk.image_of entry → length image ≡ 768
image_long image entry h e = ap length e ∙ length-take-le 768 entry (omega arith)

pub every_masks : Masks 32 (replicate 128 0xFFFFFFFF)
unfolding full pick
every_masks = masks_of 32 (replicate 128 0xFFFFFFFF) (λ k. true) (λ k l. get_or-replicate 128 k 0xFFFFFFFF 0 (omega arith))

pub cells_back : (dst x entry image words odds : List ℕ) (a : ℕ) → image ≡ Walk.image_of entry → a ≡ Walk.address_of entry
    → words ≡ row (λ L. get_or entry (770 + L) 0)
    → odds ≡ odd_in image a
    → x ≡ with_cells a dst (stored_by 6 words odds (replicate 128 0xFFFFFFFF) dst a)
    → x ≡ Walk.with_kept entry dst
unfolding Walk.with_kept stored_by odd_in stored_cell pick
cells_back dst x entry image words odds a ei ea ew eo e =
    e
    ∙ cells_same a dst _ (λ L. with_cell (Walk.picks_odd image a L) (Walk.cell_of entry L) (even_cell dst a L) (odd_cell dst a L)) same
    ∙ ap (λ (y : List ℕ). with_cells a dst (λ L. with_cell (Walk.picks_odd y a L) (Walk.cell_of entry L) (even_cell dst a L) (odd_cell dst a L))) ei
    ∙ ap (λ (b : ℕ). with_cells b dst (λ L. with_cell (Walk.picks_odd (Walk.image_of entry) b L) (Walk.cell_of entry L) (even_cell dst b L) (odd_cell dst b L))) ea
  where
    same : (L : ℕ) → L < 32
        → stored_by 6 words odds (replicate 128 0xFFFFFFFF) dst a L
        ≡ with_cell (Walk.picks_odd image a L) (Walk.cell_of entry L) (even_cell dst a L) (odd_cell dst a L)
    same L l =
        pick_true (marked (replicate 128 0xFFFFFFFF) L) _ _ (ap (λ (x : ℕ). eqb x 0xFFFFFFFF) (get_or-replicate 128 L 0xFFFFFFFF 0 (omega arith)))
        ∙ cc (operand words _ ew L l, ap (λ (x : ℕ). eqb x 0xFFFFFFFF) (operand odds _ eo L l) ∙ marks (odd_at image a L))

-- ---- an entry put together, and a step

pub entry_kept : (e image₁ pair cells image dst : List ℕ) (i : Insn) (a cursor : ℕ) → length e ≡ 802 → length image ≡ 768
    → image₁ ≡ image
    → pair ≡ cursor ∷ (a ∷ [])
    → cells ≡ Walk.kept_cells i.op a image dst
    → put_mid 770 32 (put_mid 768 2 (image₁ ++ drop 768 e) pair) cells ≡ Walk.entry_at i a (starting cursor image dst)
unfolding Walk.entry_at Walk.kept_cells
entry_kept e image₁ pair cells image dst i a cursor long wide p q r =
    three_copies e image₁ pair cells long (ap length p ∙ wide) (ap length q) (ap length r ∙ length_build 32 _) ∙ cc

-- a machine, by its parts
pub machine_is : (m : Machine) (cursor : ℕ) (image dst : List ℕ) → cursor ≡ m.cursor → image ≡ m.image → dst ≡ m.dst → starting cursor image dst ≡ m
machine_is m cursor image dst p q r =
    ap (λ (n : ℕ). starting n image dst) p ∙ ap (λ (x : List ℕ). starting m.cursor x dst) q ∙ ap (λ (x : List ℕ). starting m.cursor m.image x) r

-- where a walk stands, by its parts
standing_is : (m m' : Machine) (n : ℕ) (store store' : List ℕ) → m ≡ m' → store ≡ store'
    → ◌≡◌ {A = Walk.Standing} (record { machine = m; done = n; store = store }) (record { machine = m'; done = n; store = store' })
standing_is m m' n store store' p q = cc (p, q)

cut_off : (n m : ℕ) → n + m - n ≡ m
cut_off n m = omega arith

-- the machine that an instruction by itself leaves
through_one : (s : Settings) (list : List ℕ) (k cursor : ℕ) (image dst : List ℕ) (last : ℕ) (x y ties stores : List ℕ) → 6 * k + 6 ≤ length list
    → Through s cursor image dst (six_of list k) last x y ties stores
    → starting last x y ≡ stepped s (insn_at list k) (starting cursor image dst)
through_one s list k cursor image dst last x y ties stores h t =
    machine_is (steps s (six_of list k) (count_of (six_of list k)) (starting cursor image dst)) last x y t.cursor_is t.image_is t.dst_is
    ∙ six_steps s list k (starting cursor image dst) h

pub step_made : (s : Settings) (list store image dst entry x y ties stores : List ℕ) (k cursor a last : ℕ) (i : Insn) → 6 * k + 6 ≤ length list
    → i ≡ insn_at list k
    → a ≡ address i.imm s.offset cursor
    → entry ≡ Walk.entry_at i a (starting cursor image dst)
    → Through s cursor image dst (take (6 * k + 6 - 6 * k) (drop (6 * k) list)) last x y ties stores
    → Walk.standing (record { at = k + 1; cursor = last }) x y (take (802 * k) store ++ (entry ++ drop (802 * k + 802 - 802 * k) (drop (802 * k) store)))
    ≡ Walk.forwarded s list (Walk.standing (record { at = k; cursor = cursor }) image dst store)
unfolding Walk.forwarded Walk.with_entry Walk.entry_of
step_made s list store image dst entry x y ties stores k cursor a last i h ei ea ee t =
    standing_is _ _ (k + 1) _ _ (through_one s list k cursor image dst last x y ties stores h (rw (cut_off (6 * k) 6) at t))
    (ap (λ (e : List ℕ). take (802 * k) store ++ (e ++ drop (802 * k + 802 - 802 * k) (drop (802 * k) store))) kept
    ∙ ap (λ (r : List ℕ). take (802 * k) store ++ (Walk.entry_of s (insn_at list k) (starting cursor image dst) ++ r))
    (ap (λ (n : ℕ). drop n (drop (802 * k) store)) (cut_off (802 * k) 802) ∙ drop-drop 802 (802 * k) store))
  where
    kept : entry ≡ Walk.entry_of s (insn_at list k) (starting cursor image dst)
    kept = ee ∙ cc (ea, ei)

-- what an entry brings back, part by part
pub all_back : (op : ℕ) (entry dst x y : List ℕ) (last : ℕ) → x ≡ Walk.image_of entry → y ≡ Walk.dst_back op entry dst → last ≡ Walk.cursor_of entry
    → starting last x y ≡ Walk.brought_back op entry dst
unfolding Walk.brought_back
all_back op entry dst x y last p q r = machine_is (Walk.brought_back op entry dst) last x y r p q

-- an entry of a store, as a part
pub entry_part : (op k : ℕ) (store dst : List ℕ) → Walk.brought_back op (take (802 * k + 802 - 802 * k) (drop (802 * k) store)) dst ≡ Walk.brought_back op (Walk.entry_in store k) dst
entry_part op k store dst = ap (λ (n : ℕ). Walk.brought_back op (take n (drop (802 * k) store)) dst) (cut_off (802 * k) 802)

pub back_made : (list store image dst x y : List ℕ) (n cursor last : ℕ)
    → starting last x y ≡ Walk.brought_back (insn_at list (n - 1)).op (Walk.entry_in store (n - 1)) dst
    → Walk.standing (record { at = n - 1; cursor = last }) x y store
    ≡ Walk.backed list (Walk.standing (record { at = n; cursor = cursor }) image dst store)
unfolding Walk.backed
back_made list store image dst x y n cursor last e = standing_is _ _ (n - 1) store store e refl

-- A walk forward and back: what an entry brings back, and where a walk stands after any calls. Assumes nothing.
use mathlib.Core.Path.{◌≡◌, refl, sym, ap, subst, ◌∙◌}
use Prim.Native.Nat.{ℕ, suc, ◌+◌, ◌-◌, ◌*◌, ◌%◌, ◌^◌, ◌<◌, ◌≤◌}
use native.Mathlib.Nat.{mod-eq_of_lt}
use native.Mathlib.Numerals.{add-one}
use native.Mathlib.Decide.{ℕ_discrete}
use native.Mathlib.Omega.{arith}
use mathlib.Core.Bool.{Bool, true, false}
use mathlib.Core.List.{List, [], ◌∷◌, ◌++◌}
use mathlib.Core.Logic.{◌⊎◌, inl, inr}
use lib.ListN.{length, get_or, take, drop, length-append, length-drop, take-append-drop}
use lib.Seq.{take_at, drop_at, get_or_at, get_or-append-add, length-take-le, drop-append-le, take-append-le}
use lib.Dec.{eqb, leb}
use borrow.Author.Tests.{eq-eqb, ne_eqb}
use Rattle.lane.specs.declared.Settings.{Settings}
use Rattle.lane.specs.declared.Insn.{Insn}
use Rattle.lane.specs.declared.Cells.{Cells}
use Rattle.lane.specs.Words.{pick, bit, flag_of, lane_config, reg, enabled}
use Rattle.lane.specs.Load.{address, is_met}
use Rattle.lane.specs.Store.{cells, with_cell, stored_cell, store}
use Rattle.lane.specs.Refusals.{pass}
use Rattle.lane.proofs.Accepted.{settings_in_range}
use Rattle.lane.proofs.Cases.{pick_true, pick_false, pick_lt}
use Rattle.lane.proofs.Places.{flag_true, flag_false}
use Rattle.lane.proofs.Stores.{length_build, get_d_build, build_same}
use Rattle.runner.specs.Image.{lane_in, head_of}
use Rattle.runner.specs.Checks.{insn_at, count_of, run_answer}
use Rattle.runner.specs.Run.{Machine, even_cell, odd_cell, with_cells, cells_after, dst_at, dst_after, stepped, steps, begin, finish, Ran}
use Rattle.runner.specs.declared.Outcome.{Outcome}
use Rattle.runner.specs.Walk as Walk
use Rattle.runner.proofs.Accepted as Checks
use Rattle.runner.proofs.Dsts.{own_cell, cells_in, cell_at, cell_of_lem, cells_same, own_cells, dst_kept}
use Rattle.runner.proofs.Steps.{store_cells}
use Rattle.runner.proofs.Walks.{Forward, forward_good, back_good, passed_lent, under, first_none, machine_is}
use Rattle.claims.specs.Claims.{SixteenBits, Event, Made, last_of, steps_of, accepted, StandsAt, start_of, Walked}
use Rattle.claims.proofs.Kept.{good_steps, length_steps, length_dst_steps}
use Rattle.claims.proofs.Runs as Runs
use Rattle.claims.proofs.Cut.{cursor_under}

-- ---- what an entry holds

module _ (i : Insn) (a : ℕ) (m : Machine) (long : length m.image ≡ 768) where
  -- the words after the image
  abbrev rest : List ℕ
  rest = m.cursor ∷ (a ∷ Walk.kept_cells i.op a m.image m.dst)

  pub entry_long : length (Walk.entry_at i a m) ≡ 802
  unfolding Walk.entry_at Walk.kept_cells
  entry_long = length-append m.image rest ∙ ap (λ (n : ℕ). length m.image + suc (suc n)) (length_build 32 _) ∙ ap (λ (n : ℕ). n + 34) long

  image_held : Walk.image_of (Walk.entry_at i a m) ≡ m.image
  unfolding Walk.entry_at
  image_held = take_at m.image rest 768 long

  cursor_held : Walk.cursor_of (Walk.entry_at i a m) ≡ m.cursor
  unfolding Walk.entry_at
  cursor_held = get_or_at m.image m.cursor (a ∷ Walk.kept_cells i.op a m.image m.dst) 0 768 long

  address_held : a < 1024 → Walk.address_of (Walk.entry_at i a m) ≡ a
  unfolding Walk.entry_at
  address_held h =
      ap (λ (n : ℕ). n % 1024) (ap (λ (k : ℕ). get_or (m.image ++ rest) k 0) (sym (omega (arith, long))) ∙ get_or-append-add m.image rest 1 0)
      ∙ mod-eq_of_lt h

  -- after a STORE, as it was
  cell_held : i.op ≡ 16 → SixteenBits m.dst → (L : ℕ) → L < 32
      → Walk.cell_of (Walk.entry_at i a m) L ≡ pick (Walk.picks_odd m.image a L) (odd_cell m.dst a L) (even_cell m.dst a L)
  unfolding Walk.entry_at Walk.kept_cells SixteenBits
  cell_held o fits L l =
      ap (λ (n : ℕ). n % 2 ^ 16)
      (ap (λ (k : ℕ). get_or (m.image ++ rest) k 0) (sym (place L))
      ∙ get_or-append-add m.image rest (suc (suc L)) 0
      ∙ get_d_build 32 (λ L. pick (eqb i.op 16) (chosen L) 0) L l
      ∙ pick_true (eqb i.op 16) (chosen L) 0 (eq-eqb i.op 16 o))
      ∙ mod-eq_of_lt (small (Walk.picks_odd m.image a L))
    where
      chosen : ℕ → ℕ
      chosen L = pick (Walk.picks_odd m.image a L) (odd_cell m.dst a L) (even_cell m.dst a L)

      place : (L : ℕ) → length m.image + suc (suc L) ≡ 770 + L
      place L = omega (arith, long)

      small : (t : Bool) → pick t (odd_cell m.dst a L) (even_cell m.dst a L) < 2 ^ 16
      small t = pick_lt t (odd_cell m.dst a L) (even_cell m.dst a L) (2 ^ 16) (fits _) (fits _)

-- ---- a step back over its entry

-- one lane's two cells: what STORE made of them, with the old one back in its place
back_again : (t odd : Bool) (cell even odd-cell k : ℕ) (c : Cells) → c ≡ pick t (with_cell odd cell even odd-cell) (cells even odd-cell)
    → k ≡ pick odd odd-cell even
    → with_cell odd k c.even c.odd ≡ cells even odd-cell
unfolding pick with_cell
back_again true true cell even odd-cell k c e h = cc (e, h)
back_again true false cell even odd-cell k c e h = cc (e, h)
back_again false true cell even odd-cell k c e h = cc (e, h)
back_again false false cell even odd-cell k c e h = cc (e, h)

-- cells put over cells at the same address
over_cells : (a : ℕ) (dst : List ℕ) (f g : ℕ → Cells) → with_cells a (with_cells a dst f) g ≡ with_cells a dst g
unfolding with_cells
over_cells a dst f g =
    build_same 16384 (λ p. pick (is_met a p) (own_cell g p) (get_or (with_cells a dst f) p 0)) (λ p. pick (is_met a p) (own_cell g p) (get_or dst p 0))
    (λ p l. at p l (is_met a p) refl)
  where
    at : (p : ℕ) → p < 16384 → (t : Bool) → is_met a p ≡ t
        → pick (is_met a p) (own_cell g p) (get_or (with_cells a dst f) p 0) ≡ pick (is_met a p) (own_cell g p) (get_or dst p 0)
    at p l true e = pick_true (is_met a p) (own_cell g p) _ e ∙ sym (pick_true (is_met a p) (own_cell g p) _ e)
    at p l false e = ap (pick (is_met a p) (own_cell g p)) (cell_at a dst f p l ∙ pick_false (is_met a p) (own_cell f p) (get_or dst p 0) e)

module _ (i : Insn) (a : ℕ) (m : Machine) (long : length m.image ≡ 768) (wide : length m.dst ≡ 16384) (fits : SixteenBits m.dst) (low : a < 1024) where
  -- the entry
  abbrev kept : List ℕ
  kept = Walk.entry_at i a m

  -- what the instruction leaves of Dst
  abbrev left : List ℕ
  left = dst_at i a m.image m.dst

  cells_left : i.op ≡ 16 → (L : ℕ) → L < 32
      → with_cell (Walk.picks_odd m.image a L) (Walk.cell_of kept L) (even_cell left a L) (odd_cell left a L) ≡ cells_in m.dst a L
  unfolding dst_at cells_after store
  cells_left o L l =
      ap (λ (n : ℕ). with_cell (Walk.picks_odd m.image a L) (Walk.cell_of kept L) n (odd_cell left a L))
      (cell_of_lem a m.dst (cells_after i a m.image m.dst) L false low l ∙ pick_false false _ made.even refl)
      ∙ ap (λ (n : ℕ). with_cell (Walk.picks_odd m.image a L) (Walk.cell_of kept L) made.even n)
      (cell_of_lem a m.dst (cells_after i a m.image m.dst) L true low l ∙ pick_true true made.odd _ refl)
      ∙ back_again (enabled (lane_in m.image L)) (Walk.picks_odd m.image a L) (stored_cell i.md (reg L (lane_in m.image L) i.vd))
      (even_cell m.dst a L) (odd_cell m.dst a L) (Walk.cell_of kept L) made
      (sym (store_cells i.op a i L (bit (lane_in m.image (head_of L) lane_config) 5) (even_cell m.dst a L) (odd_cell m.dst a L) (lane_in m.image L) o))
      (cell_held i a m long o fits L l)
    where
      made : Cells
      made = cells_after i a m.image m.dst L

  -- Dst with the entry's cells at address b, by the columns that an image chooses
  abbrev brought : List ℕ → ℕ → List ℕ
  brought x b = with_cells b left (λ L. with_cell (Walk.picks_odd x b L) (Walk.cell_of kept L) (even_cell left b L) (odd_cell left b L))

  dst_store : i.op ≡ 16 → Walk.with_kept kept left ≡ m.dst
  unfolding Walk.with_kept dst_at
  dst_store o =
      ap (λ (x : List ℕ). brought x (Walk.address_of kept)) (image_held i a m long)
      ∙ ap (λ (b : ℕ). brought m.image b) (address_held i a m long low)
      ∙ cells_same a left _ (cells_in m.dst a) (cells_left o)
      ∙ over_cells a m.dst (cells_after i a m.image m.dst) (cells_in m.dst a)
      ∙ own_cells a m.dst wide

  dst_returned : Walk.dst_back i.op kept left ≡ m.dst
  unfolding Walk.dst_back
  dst_returned = go (ℕ_discrete i.op 16)
    where
      go : Dec (i.op ≡ 16) → pick (eqb i.op 16) (Walk.with_kept kept left) left ≡ m.dst
      go (yes o) = pick_true (eqb i.op 16) (Walk.with_kept kept left) left (eq-eqb i.op 16 o) ∙ dst_store o
      go (no n) = pick_false (eqb i.op 16) (Walk.with_kept kept left) left (ne_eqb i.op 16 n) ∙ sym (dst_kept i a m.image m.dst n wide)

-- the last instruction taken back: the machine is as it was before it
pub returned : (s : Settings) (i : Insn) (m : Machine) → length m.image ≡ 768 → length m.dst ≡ 16384 → SixteenBits m.dst
    → Walk.brought_back i.op (Walk.entry_of s i m) (stepped s i m).dst ≡ m
unfolding Walk.brought_back Walk.entry_of stepped dst_after
returned s i m long wide fits =
    let a = address i.imm s.offset m.cursor in
    machine_is m _ _ _ (cursor_held i a m long) (image_held i a m long) (dst_returned i a m long wide fits (omega arith))

-- ---- entries in a store

-- an entry that lies in front
in_front_lem : (xs ys : List ℕ) (j : ℕ) → 802 * j + 802 ≤ length xs → Walk.entry_in (xs ++ ys) j ≡ Walk.entry_in xs j
in_front_lem xs ys j h =
    ap (take 802) (drop-append-le (802 * j) xs ys (omega arith))
    ∙ take-append-le 802 (drop (802 * j) xs) ys (omega (arith, length-drop (802 * j) xs))

module _ (k : ℕ) (entry room : List ℕ) (long : length entry ≡ 802) (fits : 802 * k + 802 ≤ length room) where
  front_long : length (take (802 * k) room) ≡ 802 * k
  front_long = length-take-le (802 * k) room (omega arith)

  pub entry_own : Walk.entry_in (Walk.with_entry k entry room) k ≡ entry
  unfolding Walk.with_entry
  entry_own =
      ap (take 802) (drop_at (take (802 * k) room) (entry ++ drop (802 * k + 802) room) (802 * k) front_long)
      ∙ take_at entry (drop (802 * k + 802) room) 802 long

  entry_other : (j : ℕ) → j < k → Walk.entry_in (Walk.with_entry k entry room) j ≡ Walk.entry_in room j
  unfolding Walk.with_entry
  entry_other j h =
      in_front_lem (take (802 * k) room) (entry ++ drop (802 * k + 802) room) j (omega (arith, front_long))
      ∙ sym (in_front_lem (take (802 * k) room) (drop (802 * k) room) j (omega (arith, front_long)))
      ∙ ap (λ (x : List ℕ). Walk.entry_in x j) (take-append-drop (802 * k) room)

  pub store_long : length (Walk.with_entry k entry room) ≡ length room
  unfolding Walk.with_entry
  store_long =
      length-append (take (802 * k) room) (entry ++ drop (802 * k + 802) room)
      ∙ omega (arith, front_long, long, length-append entry (drop (802 * k + 802) room), length-drop (802 * k + 802) room)

-- ---- a call

module _ (s : Settings) (list : List ℕ) where
  -- what a call did, by its answer
  went : (c : Walk.Call) (x : Walk.Standing) (answer : ℕ) (y : Walk.Standing) → Walk.Called c s list x answer y → answer ≡ 0 → y ≡ Walk.moved c s list x
  went c x answer y h z =
      h.after_is ∙ pick_true (eqb (Walk.call_answer c s list x) 0) (Walk.moved c s list x) x (eq-eqb (Walk.call_answer c s list x) 0 (sym h.answer_is ∙ z))

  pub stayed : (c : Walk.Call) (x : Walk.Standing) (answer : ℕ) (y : Walk.Standing) → Walk.Called c s list x answer y → (answer ≡ 0 → ⊥) → y ≡ x
  stayed c x answer y h z =
      h.after_is ∙ pick_false (eqb (Walk.call_answer c s list x) 0) (Walk.moved c s list x) x (ne_eqb (Walk.call_answer c s list x) 0 (λ q. z (h.answer_is ∙ q)))

-- ---- where a walk stands

-- and the cells that each step met have 16 bits
pub record Held (s : Settings) (list : List ℕ) (m : Machine) (k : ℕ) (x : Walk.Standing) : Type 0 where
  pub stands : StandsAt s list m k x
  pub fit : (j : ℕ) → j ≤ k → SixteenBits (steps s list j m).dst

module _ (s : Settings) (list : List ℕ) (m : Machine) (long : length m.image ≡ 768) (wide : length m.dst ≡ 16384) where
  -- the entry of the instruction after k
  abbrev next : ℕ → List ℕ
  next k = Walk.entry_of s (insn_at list k) (steps s list k m)

  pub next_long : (k : ℕ) → length (next k) ≡ 802
  unfolding Walk.entry_of
  next_long k = entry_long (insn_at list k) (address (insn_at list k).imm s.offset (steps s list k m).cursor) (steps s list k m) (length_steps s list k m long)

  -- one step forward
  held_forward : (k : ℕ) (x y : Walk.Standing) → Held s list m k x → Forward s list x → y ≡ Walk.forwarded s list x → SixteenBits y.machine.dst
      → Held s list m (suc k) y
  unfolding Walk.forwarded steps
  held_forward k x y h f e fits =
      record {
        stands =
            record {
              machine = moved;
              done = ap (λ (z : Walk.Standing). z.done) e ∙ ap (λ (n : ℕ). n + 1) h.stands.done ∙ add-one k;
              within = omega (arith, h.stands.done, f.next);
              room = omega (arith, h.stands.done, f.room, ap length kept, store_long k (next k) x.store (next_long k) room);
              entries = λ j l. ap (λ (z : List ℕ). Walk.entry_in z j) kept ∙ held j l (ℕ_discrete j k);
            };
        fit = λ j l. now j l (ℕ_discrete j (suc k));
      }
    where
      room : 802 * k + 802 ≤ length x.store
      room = omega (arith, h.stands.done, f.room)

      moved : y.machine ≡ steps s list (suc k) m
      moved = ap (λ (z : Walk.Standing). z.machine) e ∙ cc (h.stands.machine, h.stands.done)

      kept : y.store ≡ Walk.with_entry k (next k) x.store
      kept = ap (λ (z : Walk.Standing). z.store) e ∙ cc (h.stands.machine, h.stands.done)

      held : (j : ℕ) → j < suc k → Dec (j ≡ k) → Walk.entry_in (Walk.with_entry k (next k) x.store) j ≡ next j
      held j l (yes q) =
          ap (λ (n : ℕ). Walk.entry_in (Walk.with_entry k (next k) x.store) n) q ∙ entry_own k (next k) x.store (next_long k) room ∙ ap next (sym q)
      held j l (no q) = entry_other k (next k) x.store (next_long k) room j (omega arith) ∙ h.stands.entries j (omega arith)

      now : (j : ℕ) → j ≤ suc k → Dec (j ≡ suc k) → SixteenBits (steps s list j m).dst
      now j l (yes q) = rw (q, ← moved) fits
      now j l (no q) = h.fit j (omega arith)

  -- one step back
  held_back : (k : ℕ) (x y : Walk.Standing) → Held s list m (suc k) x → y ≡ Walk.backed list x → Held s list m k y
  unfolding Walk.backed steps
  held_back k x y h e =
      record {
        stands =
            record {
              machine =
                  ap (λ (z : Walk.Standing). z.machine) e
                  ∙ cc (last, h.stands.machine, h.stands.entries k (omega arith))
                  ∙ returned s (insn_at list k) (steps s list k m) (length_steps s list k m long) (length_dst_steps s list k m wide) (h.fit k (omega arith));
              done = ap (λ (z : Walk.Standing). z.done) e ∙ last;
              within = omega (arith, h.stands.within);
              room = omega (arith, h.stands.room, ap length kept);
              entries = λ j l. ap (λ (z : List ℕ). Walk.entry_in z j) kept ∙ h.stands.entries j (omega arith);
            };
        fit = λ j l. h.fit j (omega arith);
      }
    where
      last : x.done - 1 ≡ k
      last = omega (arith, h.stands.done)

      kept : y.store ≡ x.store
      kept = ap (λ (z : Walk.Standing). z.store) e

  -- ---- any calls

  -- a walk stands somewhere, by as many steps forward and back
  record Somewhere (n b : ℕ) (x : Walk.Standing) : Type 0 where
    at : ℕ
    counted : at + b ≡ n
    held : Held s list m at x

  -- one call
  one_call : (k : ℕ) (x : Walk.Standing) (e : Event) → Held s list m k x → Walk.Called e.call s list x e.answer e.after
      → Somewhere (k + steps_of Walk.forward e.call e.answer) (steps_of Walk.back e.call e.answer) e.after
  unfolding Walk.moved
  one_call k x e h d = go e.call e.answer e.after e.cells d (ℕ_discrete e.answer 0)
    where
      one : (answer : ℕ) → answer ≡ 0 → flag_of (eqb answer 0) ≡ 1
      one answer z = ap flag_of (eq-eqb answer 0 z) ∙ flag_true

      none : (answer : ℕ) → (answer ≡ 0 → ⊥) → flag_of (eqb answer 0) ≡ 0
      none answer z = ap flag_of (ne_eqb answer 0 z) ∙ flag_false

      go : (c : Walk.Call) (answer : ℕ) (y : Walk.Standing) → SixteenBits y.machine.dst → Walk.Called c s list x answer y → Dec (answer ≡ 0)
          → Somewhere (k + steps_of Walk.forward c answer) (steps_of Walk.back c answer) y
      go Walk.forward answer y fits d (yes z) =
          record {
            at = suc k;
            counted = omega (arith, one answer z);
            held = held_forward k x y h (forward_good s list x (sym d.answer_is ∙ z)) (went s list Walk.forward x answer y d z) fits;
          }
      go Walk.forward answer y fits d (no z) =
          record { at = k; counted = omega (arith, none answer z); held = rw (stayed s list Walk.forward x answer y d z) h }
      go Walk.back answer y fits d (yes z) =
          let b = back_good s list x (sym d.answer_is ∙ z) in
          let q : k ≡ suc (k - 1) = omega (arith, b.some, h.stands.done) in
          record {
            at = k - 1;
            counted = omega (arith, one answer z, b.some, h.stands.done);
            held = held_back (k - 1) x y (subst (λ (n : ℕ). Held s list m n x) q h) (went s list Walk.back x answer y d z);
          }
      go Walk.back answer y fits d (no z) =
          record { at = k; counted = omega (arith, none answer z); held = rw (stayed s list Walk.back x answer y d z) h }

  -- and any number of them
  any_calls : (calls : List Event) (k : ℕ) (x : Walk.Standing) → Held s list m k x → Made s list x calls
      → Somewhere (k + accepted Walk.forward calls) (accepted Walk.back calls) (last_of x calls)
  unfolding accepted
  any_calls [] k x h u = record { at = k; counted = refl; held = h }
  any_calls (e ∷ es) k x h d =
      let a = one_call k x e h d.0 in
      let b = any_calls es a.at e.after a.held d.1 in
      record { at = b.at; counted = omega (arith, a.counted, b.counted); held = b.held }

twelve_or : (t : Bool) (n : ℕ) → (t ≡ true → n ≡ 0) → (pass t 12 n ≡ 0) ⊎ (pass t 12 n ≡ 12)
unfolding pass pick
twelve_or true n h = inl (h refl)
twelve_or false n h = inr refl

-- ---- a walk that began well

module _ (s : Settings) (image dst list room : List ℕ) (calls : List Event) (w : Walked s image dst list room calls) where
  began : (run_answer s image dst list).answer ≡ 0
  unfolding Walk.begun
  began = w.began

  checked : Checks.Accepted s image dst list
  checked = Checks.accepted s image dst list began

  start_held : Held s list (begin s image dst) 0 (start_of s image dst list room)
  unfolding Walk.begun steps
  start_held =
      record {
        stands =
            record {
              machine = refl;
              done = refl;
              within = omega arith;
              room = omega arith;
              entries = λ j l. absurd (none j l);
            };
        fit = λ j l. rw (zero_of j l) w.cells;
      }
    where
      none : (j : ℕ) → j < 0 → ⊥
      none j l = omega arith

      zero_of : (j : ℕ) → j ≤ 0 → j ≡ 0
      zero_of j l = omega arith

  stood : Somewhere s list (begin s image dst) checked.passed.image_long checked.passed.dst_long (0 + accepted Walk.forward calls)
      (accepted Walk.back calls)
      (last_of (start_of s image dst list room) calls)
  stood = any_calls s list (begin s image dst) checked.passed.image_long checked.passed.dst_long calls 0 (start_of s image dst list room) start_held w.made

  difference : (at n b : ℕ) → at + b ≡ 0 + n → (b ≤ n) × (at ≡ n - b)
  difference at n b h = (omega arith, omega arith)

  pub where_it_stands : (accepted Walk.back calls ≤ accepted Walk.forward calls)
      × StandsAt s list (begin s image dst) (accepted Walk.forward calls - accepted Walk.back calls) (last_of (start_of s image dst list room) calls)
  where_it_stands =
      let d = difference stood.at (accepted Walk.forward calls) (accepted Walk.back calls) stood.counted in
      (d.0, subst (λ (n : ℕ). StandsAt s list (begin s image dst) n (last_of (start_of s image dst list room) calls)) d.1 stood.held.stands)

  -- all of the list stepped forward is a run
  pub walked_through : (o : Outcome) (after stored : List ℕ) → accepted Walk.forward calls ≡ count_of list + accepted Walk.back calls
      → Ran s image dst list o after stored
      → (last_of (start_of s image dst list room) calls).machine ≡ record { image = after; dst = stored; cursor = o.cursor }
  walked_through o after stored all r =
      let d = Runs.done s image dst list began in
      where_it_stands.1.machine
      ∙ ap (λ (n : ℕ). steps s list n (begin s image dst)) (omega arith)
      ∙ sym
      (machine_is (finish s image dst list) o.cursor after stored (ap (λ (x : Outcome). x.cursor) (r.outcome_is ∙ d.0)) (r.image_is ∙ d.1.0)
      (r.dst_is ∙ d.1.1))

  -- a further call is not refused by 1 to 9
  abbrev last : Walk.Standing
  last = last_of (start_of s image dst list room) calls

  pub none_lent : Walk.lent_answer s list (last_of (start_of s image dst list room) calls).machine ≡ 0
  none_lent =
      let k = accepted Walk.forward calls - accepted Walk.back calls in
      let p = checked.passed in
      rw where_it_stands.1.machine
      (passed_lent s list (steps s list k (begin s image dst))
      (record {
        image_long = length_steps s list k (begin s image dst) p.image_long;
        dst_long = length_dst_steps s list k (begin s image dst) p.dst_long;
        list_given = p.list_given;
        image_good_lem = good_steps s list k (begin s image dst) p.image_good_lem;
      })
      (cursor_under s list k (begin s image dst) (settings_in_range s p.list_given.settings_good_lem).cursor))

  answers : (c : Walk.Call) → (Walk.call_answer c s list last ≡ 0) ⊎ (Walk.call_answer c s list last ≡ 12)
  unfolding Walk.call_answer Walk.next_answer Walk.last_answer
  answers Walk.forward =
      rw (first_none (Walk.lent_answer s list last.machine) _ none_lent)
      (twelve_or (Walk.may_forward last.done (count_of list) (length last.store)) _
      (λ t. checked.each last.done (under last.done (count_of list) (leb (802 * last.done + 802) (length last.store)) t)))
  answers Walk.back =
      rw (first_none (Walk.lent_answer s list last.machine) _ none_lent)
      (twelve_or (Walk.may_back last.done (count_of list) (length last.store)) 0 (λ t. refl))

  pub only_twelve : (c : Walk.Call) (answer : ℕ) (y : Walk.Standing) → Walk.Called c s list (last_of (start_of s image dst list room) calls) answer y
      → (answer ≡ 0) ⊎ (answer ≡ 12)
  only_twelve c answer y h = rw h.answer_is (answers c)

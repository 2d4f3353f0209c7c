-- The loops that scan and that render a form: what is known each time their tests are reached. Assumes nothing.
use mathlib.Core.Path.{◌≡◌, refl, sym, ap, ◌∙◌}
use Prim.Native.Nat.{ℕ, ◌+◌, ◌-◌, ◌<◌, ◌≤◌}
use native.Mathlib.Nat.{add-zero, zero-add}
use native.Mathlib.Numerals.{add-one}
use native.Mathlib.Omega.{arith}
use mathlib.Core.List.{List, [], ◌∷◌, ◌++◌, append-nil, append_assoc}
use lib.ListN.{length, get_or, take, drop, set, length-set, length-append, drop_of_length-le}
use lib.Seq.{get_or-drop, drop-drop, take-suc-set}
use lib.Dec.{eqb}
use mir.Val.{bool_byte}
use Rattle.lane.proofs.Cases.{byte_small}
use Rattle.std.specs.Prelude.{None, Some}
use Rattle.listing.specs.declared.Got.{Got}
use Rattle.listing.specs.Forms.{Item, lit, dec, hex, name, render, render_item, Form, faulty, joined, ends, lines_in, scan, scan_item, takes}
use Rattle.listing.specs.PrivatePlaces.{item_of, form_of, numbers, widest, widest_item, Grown, of_item, ItemAt, FormAt, FaultAt, Renders}
use Rattle.listing.proofs.Items.{ends_byte, form_cons}
use Rattle.listing.proofs.Joins.{joined_none, joined_joined, joined_end, joined_fault, scan_item_lem, scan_fault}
use Rattle.listing.proofs.Rooms.{grown_none, grown_more}
use Rattle.listing.proofs.Digits.{length_digits}
use Rattle.listing.proofs.Names.{length_names}
use Rattle.listing.proofs.Trips.{item_taken, takes_one}

module _ (form t : List ℕ) (from first : ℕ) where
  pub record Scanning (out : List ℕ) (f at line n : ℕ) : Type 0 where
    pub goes : scan (form_of form) (drop from t) ≡ joined (take n out) (line - first) (scan (form_of (drop f form)) (drop at t))
    pub nine : length out ≡ 9
    pub within : at ≤ length t
    pub in_form : f ≤ length form
    pub lines : line + lines_in (form_of (drop f form)) ≡ first + lines_in (form_of form)
    pub onward : first ≤ line
    pub few : line ≤ first + f
    pub room : n + numbers (form_of (drop f form)) ≡ numbers (form_of form)

  pub scanning_start : (out : List ℕ) → length out ≡ 9 → from ≤ length t → Scanning out 0 from first 0
  scanning_start out k h =
      let z : first - first ≡ 0 = omega arith in
      record {
        goes = rw z (sym (joined_none (scan (form_of form) (drop from t))));
        nine = k;
        within = h;
        in_form = omega arith;
        lines = refl;
        onward = omega arith;
        few = omega arith;
        room = zero-add (numbers (form_of form));
      }

  module _ (out : List ℕ) (f at line n : ℕ) (s : Scanning out f at line n) where
    module _ (l : f < length form) where
      -- an item that is not there
      pub scanning_stop : scan_item (item_of (get_or form f 0)) (drop at t) ≡ faulty 0
          → FaultAt (scan (form_of form) (drop from t)) first (record { line = line })
      scanning_stop e =
          record {
            scanned =
                s.goes
                ∙ rw (form_cons form f l, scan_fault _ (form_of (drop (f + 1) form)) (drop at t) 0 e)
                (joined_fault (take n out) (line - first));
            onward = s.onward;
          }

      numbers_cons : numbers (form_of (drop f form)) ≡ takes (item_of (get_or form f 0)) + numbers (form_of (drop (f + 1) form))
      unfolding numbers
      numbers_cons = rw (form_cons form f l)

      lines_cons : lines_in (form_of (drop f form)) ≡ bool_byte (eqb (get_or form f 0) 10) + lines_in (form_of (drop (f + 1) form))
      unfolding lines_in
      lines_cons = rw (form_cons form f l, ends_byte (get_or form f 0)) refl

      module _ (g : Got) (e : ItemAt (scan_item (item_of (get_or form f 0)) (drop at t)) t g) where
        one_more : length (of_item g.number) ≡ takes (item_of (get_or form f 0))
        one_more = (item_taken (item_of (get_or form f 0)) (drop at t) _ (drop g.at t) e.scanned).count

        -- there is room for an item's number
        pub room_for : (v : ℕ) → g.number ≡ Some v → numbers (form_of form) ≤ 9 → n < length out
        room_for v q h =
            let k : 1 ≡ takes (item_of (get_or form f 0)) = rw q at one_more in
            omega (arith, s.room, s.nine, numbers_cons)

        scanning_next : (after : List ℕ) (m : ℕ) → take m after ≡ take n out ++ of_item g.number → length after ≡ length out → m ≡ n + length (of_item g.number)
            → Scanning after (f + 1) g.at (line + bool_byte (eqb (get_or form f 0) 10)) m
        scanning_next after m q r z =
            let k : line - first + ends (item_of (get_or form f 0)) ≡ line + bool_byte (eqb (get_or form f 0) 10) - first = omega (arith, ends_byte (get_or form f 0), s.onward) in
            record {
              goes =
                  s.goes
                  ∙ rw (form_cons form f l, scan_item_lem _ (form_of (drop (f + 1) form)) (drop at t) _ _ e.scanned, ← k, q)
                  (joined_joined (take n out) _ (line - first) _ _);
              nine = r ∙ s.nine;
              within = e.within;
              in_form = omega arith;
              lines = omega (arith, s.lines, lines_cons);
              onward = omega (arith, s.onward);
              few = omega (arith, s.few, byte_small (eqb (get_or form f 0) 10));
              room = omega (arith, s.room, numbers_cons, one_more);
            }

        pub scanning_some : (v : ℕ) → g.number ≡ Some v → numbers (form_of form) ≤ 9
            → Scanning (set out n v) (f + 1) g.at (line + bool_byte (eqb (get_or form f 0) 10)) (n + 1)
        scanning_some v q h =
            scanning_next (set out n v) (n + 1) (rw (q, add-one n) (take-suc-set out n v (room_for v q h))) (length-set out n v) (rw q refl)

        pub scanning_none : g.number ≡ None → Scanning out (f + 1) g.at (line + bool_byte (eqb (get_or form f 0) 10)) n
        scanning_none q = scanning_next out n (rw q (sym (append-nil (take n out)))) refl (rw q (sym (add-zero n)))

    pub scanning_end : length form ≤ f → FormAt (form_of form) t from first at line out
    unfolding form_of scan numbers lines_in
    scanning_end l =
        let z = drop_of_length-le form {i = f} l in
        let k : n ≡ numbers (form_of form) = sym (add-zero n) ∙ rw z at s.room in
        record {
          scanned = rw (← k) (s.goes ∙ rw z (joined_end (take n out) (line - first) (drop at t)));
          within = s.within;
          onward = sym (add-zero line) ∙ rw z at s.lines;
        }

-- ---- rendering

pub item_widest : (i : Item) (v : ℕ) → length (render_item i v) ≤ widest_item i
unfolding render_item widest_item
item_widest (lit x) v = omega arith
item_widest (dec w) v = omega (arith, length_digits 10 w v)
item_widest (hex w) v = omega (arith, length_digits 16 w v)
item_widest name v = length_names v

pub render_widest : (f : Form) (ns : List ℕ) → length (render f ns) ≤ widest f
unfolding render widest
render_widest [] ns = omega arith
render_widest (i ∷ f) ns =
    omega
    (arith, length-append (render_item i (get_or ns 0 0)) (render f (drop (takes i) ns)), item_widest i (get_or ns 0 0), render_widest f (drop (takes i) ns))

-- a form fits where its widest does
pub render_room : (f : Form) (ns : List ℕ) (place size w : ℕ) → widest f ≡ w → place + w ≤ size → place + length (render f ns) ≤ size
render_room f ns place size w e h = omega (arith, render_widest f ns)

-- the room that an item asks for
module _ (i : Item) (at v size : ℕ) where
  pub room_dec : {w : ℕ} → i ≡ dec w → at + length (render_item i v) ≤ size → at + w ≤ size
  unfolding render_item
  room_dec {w} e h = omega (arith, length_digits 10 w v, ap (λ (x : Item). length (render_item x v)) e)

  pub room_hex : {w : ℕ} → i ≡ hex w → at + length (render_item i v) ≤ size → at + w ≤ size
  unfolding render_item
  room_hex {w} e h = omega (arith, length_digits 16 w v, ap (λ (x : Item). length (render_item x v)) e)

module _ (form values : List ℕ) (from place : ℕ) (before : List ℕ) where
  pub record Rendering (out : List ℕ) (f n at : ℕ) : Type 0 where
    pub bs : List ℕ
    pub goes : render (form_of form) (drop from values) ≡ bs ++ render (form_of (drop f form)) (drop n values)
    pub grown : Grown place at before out bs
    pub same : length out ≡ length before
    pub in_form : f ≤ length form
    pub few : n ≤ from + f

  pub rendering_start : Rendering before 0 from place
  rendering_start =
      record {
        bs = [];
        goes = refl;
        grown = grown_none place before;
        same = refl;
        in_form = omega arith;
        few = omega arith;
      }

  module _ (out : List ℕ) (f n at : ℕ) (s : Rendering out f n at) where
    module _ (l : f < length form) where
      rendered : render (form_of (drop f form)) (drop n values)
          ≡ render_item (item_of (get_or form f 0)) (get_or values n 0)
          ++ render (form_of (drop (f + 1) form)) (drop (n + takes (item_of (get_or form f 0))) values)
      unfolding render
      rendered =
          rw (form_cons form f l, get_or-drop n values 0 0, add-zero n, drop-drop (takes (item_of (get_or form f 0))) n values)

      pub room_there : (v : ℕ) → v ≡ get_or values n 0 → place + length (render (form_of form) (drop from values)) ≤ length before
          → at + length (render_item (item_of (get_or form f 0)) v) ≤ length out
      room_there v e h =
          let x = render_item (item_of (get_or form f 0)) (get_or values n 0) in
          let y = render (form_of (drop (f + 1) form)) (drop (n + takes (item_of (get_or form f 0))) values) in
          let all : length (render (form_of form) (drop from values)) ≡ length s.bs + (length x + length y) = ap length s.goes ∙ length-append s.bs _ ∙ ap (λ (k : ℕ). length s.bs + k) (ap length rendered ∙ length-append x y) in
          rw e (omega (arith, all, s.same, s.grown.up_to))

      pub rendering_more : (v at' k : ℕ) (out' : List ℕ) → v ≡ get_or values n 0 → k ≡ takes (item_of (get_or form f 0))
          → Grown at at' out out' (render_item (item_of (get_or form f 0)) v) → length out' ≡ length out
          → Rendering out' (f + 1) (n + k) at'
      rendering_more v at' k out' e c g q =
          record {
            bs = s.bs ++ render_item (item_of (get_or form f 0)) v;
            goes = s.goes ∙ rw (rendered, c, e) (sym (append_assoc s.bs _ _));
            grown = grown_more place at before out s.bs s.grown at' out' _ g;
            same = q ∙ s.same;
            in_form = omega arith;
            few = omega (arith, s.few, takes_one (item_of (get_or form f 0)));
          }

    pub rendering_end : length form ≤ f
        → Renders (render (form_of form) (drop from values)) place (widest (form_of form)) before out at
    unfolding form_of render
    rendering_end l =
        let e : render (form_of form) (drop from values) ≡ s.bs = s.goes ∙ rw (drop_of_length-le form {i = f} l) (append-nil s.bs) in
        record {
          grown = rw e s.grown;
          within = omega (arith, s.grown.up_to, sym (ap length e), render_widest (form_of form) (drop from values));
        }

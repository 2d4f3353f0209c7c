-- The reader: the two loops over instruction lines, and what each return says. Assumes nothing.
use mathlib.Core.Path.{◌≡◌, refl, sym, ap, ◌∙◌}
use Prim.Native.Nat.{ℕ, suc, ◌+◌, ◌-◌, ◌*◌, ◌/◌, ◌<◌, ◌≤◌}
use native.Mathlib.Nat.{sub-zero}
use native.Mathlib.Omega.{arith}
use mathlib.Core.Bool.{true, false}
use mathlib.Core.List.{List, [], ◌++◌, append-nil, append_assoc}
use lib.ListN.{length, take, drop, length-append}
use lib.Seq.{get_or-take, take-length}
use borrow.Author.Tests.{eq-eqb, ne_eqb, le-leb, lt-leb}
use Rattle.std.specs.Prelude.{Result, Ok, Err, IsOk, MatchResult, ⊤}
use Rattle.lane.specs.declared.Settings.{Settings}
use Rattle.lane.specs.Refusals.{settings_good, instruction_answer}
use Rattle.lane.proofs.Cases.{pick_true, pick_false}
use Rattle.runner.specs.declared.Refused.{Refused}
use Rattle.runner.specs.Checks.{Found, insn_at, found, found_by, scan as scanList, scanned, list_limit, list_answer}
use Rattle.runner.proofs.Accepted.{list_unset, list_scanned}
use Rattle.runner.proofs.Scan.{scan_grows}
use Rattle.listing.specs.declared.Reading.{Reading}
use Rattle.listing.specs.declared.Fault.{Fault}
use Rattle.listing.specs.Forms.{Scan, taken, faulty, joined, scan}
use Rattle.listing.specs.PrivatePlaces.{numbers, Grown, FormAt, FaultAt, numbers_of, Whole}
use Rattle.listing.specs.PrivateReader.{first_refused, Checking, Checked, Filling, Reads}
use Rattle.listing.specs.PrivateLines.{words_of, PlainAt}
use Rattle.listing.specs.Listing.{Format, format_of, head, first_line, line, lines, settings_of, count_in, in_front, Read, refused_reading, refuse_read, accepted_reading, read_list, read_rest, read_header, read_as, text_limit, read_text}
use Rattle.listing.proofs.FormatTable.{line_numbers, line_lines, lines_numbers}
use Rattle.listing.proofs.Joins.{joined_none, joined_joined, joined_end, joined_taken, scan_then, scan_not}
use Rattle.listing.proofs.Rooms.{grown_more, grown_whole}
use Rattle.listing.proofs.Trips.{apart, scan_whole}

-- ---- instruction lines

lines_more : (count i : ℕ) → i < count → lines (count - i) ≡ line ++ lines (count - (i + 1))
unfolding lines
lines_more count i h =
    let e : count - i ≡ suc (count - (i + 1)) = omega arith in
    rw e

-- a line, and then the rest
lines_then : (t ns : List ℕ) (at end count i : ℕ) → scan line (drop at t) ≡ taken ns (drop end t) → i < count
    → scan (lines (count - i)) (drop at t) ≡ joined ns 1 (scan (lines (count - (i + 1))) (drop end t))
lines_then t ns at end count i e l =
    rw (lines_more count i l, scan_then line (lines (count - (i + 1))) (drop at t) ns (drop end t) e, line_lines) refl

-- one line found at a position
module _ (t : List ℕ) (at first end l : ℕ) (ns : List ℕ) (there : FormAt line t at first end l ns) where
  line_taken : scan line (drop at t) ≡ taken (take 6 ns) (drop end t)
  line_taken = rw line_numbers at there.scanned

  six_long : length (take 6 ns) ≡ 6
  six_long = (scan_whole line (drop at t) (take 6 ns) (drop end t) line_taken).count ∙ line_numbers

-- no line is there
no_line : (t : List ℕ) (at first : ℕ) (e : Fault) → FaultAt (scan line (drop at t)) first e → (count i : ℕ) → i < count
    → scan (lines (count - i)) (drop at t) ≡ faulty (e.line - first)
no_line t at first e there count i l =
    rw (lines_more count i l) (scan_not line (lines (count - (i + 1))) (drop at t) (e.line - first) there.scanned)

-- the first six of a line's numbers are an instruction
same_insn : (ns : List ℕ) → insn_at (take 6 ns) 0 ≡ insn_at ns 0
unfolding insn_at
same_insn ns =
    rw (
      get_or-take 6 ns 0 0 (omega arith),
      get_or-take 6 ns 1 0 (omega arith),
      get_or-take 6 ns 2 0 (omega arith),
      get_or-take 6 ns 3 0 (omega arith),
      get_or-take 6 ns 4 0 (omega arith),
      get_or-take 6 ns 5 0 (omega arith),
    )

-- an instruction that no check refuses leaves the first refused as it is
pub kept : (f : Found) (k a : ℕ) → f.answer ≡ 0 → a ≡ 0 → f ≡ first_refused f k a
unfolding first_refused
kept f k a z n = sym (pick_true _ _ _ (eq-eqb f.answer 0 z) ∙ pick_true _ _ _ (eq-eqb a 0 n))

-- after some that are refused by none, one that is refused
pub first_one : (k n a : ℕ) → n ≡ a → (n ≡ 0 → ⊥) → found n k ≡ first_refused (found 0 0) k a
unfolding first_refused
first_one k n a e h =
    ap (λ (x : ℕ). found x k) e ∙ sym (pick_true _ _ _ (eq-eqb 0 0 refl) ∙ pick_false _ _ _ (ne_eqb a 0 (λ z. h (e ∙ z))))

-- ---- the first time over them

module _ (t : List ℕ) (from count : ℕ) where
  pub checking_start : from ≤ length t → Checking t from count from (found 0 0) 0
  unfolding scanList
  checking_start h =
      record {
        ns = [];
        goes = rw (sub-zero count) (sym (joined_none (scan (lines count) (drop from t))));
        refused = refl;
        six = refl;
        within = h;
        up_to = omega arith;
      }

  module _ (at : ℕ) (f : Found) (i : ℕ) (s : Checking t from count at f i) where
    -- one line more
    checking_line : (ns : List ℕ) (end : ℕ) → scan line (drop at t) ≡ taken ns (drop end t) → length ns ≡ 6 → end ≤ length t → i < count
        → (g : Found) → g ≡ first_refused f i (instruction_answer true (insn_at ns 0)) → Checking t from count end g (i + 1)
    unfolding first_refused
    checking_line ns end there long within l g e =
        record {
          ns = s.ns ++ ns;
          goes = s.goes ∙ rw (lines_then t ns at end count i there l) (joined_joined s.ns ns i 1 _);
          refused = e ∙ sym (scan_grows s.ns ns i f s.six s.refused);
          six = omega (arith, s.six, length-append s.ns ns, long);
          within = within;
          up_to = omega arith;
        }

    module _ (line_at : ℕ) (l : i < count) where
      pub checking_more : (end after : ℕ) (ns : List ℕ) → FormAt line t at line_at end after ns → (g : Found)
          → g ≡ first_refused f i (instruction_answer true (insn_at ns 0)) → Checking t from count end g (i + 1)
      checking_more end after ns there g e =
          checking_line (take 6 ns) end (line_taken t at line_at end after ns there) (six_long t at line_at end after ns there) there.within l g
          (rw (same_insn ns) e)

      pub checking_stop : (first : ℕ) → line_at ≡ first + i → (e : Fault) → FaultAt (scan line (drop at t)) line_at e
          → FaultAt (scan (lines count) (drop from t)) first e
      unfolding joined
      checking_stop first z e there =
          let k : i + (e.line - line_at) ≡ e.line - first = omega (arith, there.onward) in
          record {
            scanned = s.goes ∙ rw (no_line t at line_at e there count i l) (ap faulty k);
            onward = omega (arith, there.onward);
          }

    pub checking_end : (r : Result ⊤ Refused) → f ≡ found_by r → count ≤ i → Checked t from count (record { at = at; found = r })
    unfolding lines scan
    checking_end r e l =
        let z : count - i ≡ 0 = omega arith in
        let n : length s.ns / 6 ≡ i = omega (arith, s.six) in
        record {
          ns = s.ns;
          whole = s.goes ∙ rw z (joined_end s.ns i (drop at t));
          refused = sym e ∙ s.refused ∙ ap (scanList s.ns 0) (sym n);
          within = s.within;
        }

-- a plain line refuses nothing
pub checking_plain : (t : List ℕ) (from count at i end : ℕ) → Checking t from count at (found 0 0) i → i < count → PlainAt t at end
    → Checking t from count end (found 0 0) (i + 1)
unfolding insn_at
checking_plain t from count at i end s l p =
    checking_line t from count at (found 0 0) i s (words_of p.insn) end p.stands.scanned refl p.stands.within l (found 0 0)
    (kept (found 0 0) i (instruction_answer true p.insn) refl p.accepted)

-- ---- the second time

-- what was taken is whole
pub taken_whole : (s : Scan) (ns rest : List ℕ) → s ≡ taken ns rest → Whole s × (numbers_of s ≡ ns)
unfolding numbers_of
taken_whole s ns rest e = (record { rest = rest; whole = rw e refl }, rw e refl)

module _ (t : List ℕ) (from count : ℕ) (before : List ℕ) where
  module _ (list : List ℕ) (at i : ℕ) (s : Filling t from count before list at i) where
    -- one line more
    pub filling_line : (ns : List ℕ) (end : ℕ) → scan line (drop at t) ≡ taken ns (drop end t) → length ns ≡ 6 → end ≤ length t → i < count
        → (m : ℕ) (after : List ℕ) → Grown (6 * i) m list after ns → length after ≡ length list → Filling t from count before after end (i + 1)
    filling_line ns end there long within l m after g k =
        let j = joined_taken ns 1 (scan (lines (count - (i + 1))) (drop end t)) s.left s.rest (sym (lines_then t ns at end count i there l) ∙ s.still) in
        let six : m ≡ 6 * (i + 1) = omega (arith, g.up_to, long) in
        record {
          done = s.done ++ ns;
          left = j.0;
          rest = s.rest;
          goes = s.goes ∙ ap (λ (x : List ℕ). s.done ++ x) j.1.1 ∙ sym (append_assoc s.done ns j.0);
          still = j.1.0;
          grown = rw (← six) (grown_more 0 (6 * i) before list s.done s.grown m after ns g);
          same = k ∙ s.same;
          within = within;
          up_to = omega arith;
        }

    module _ (line_at : ℕ) (l : i < count) where
      -- a line that was in form still is
      pub filling_there : (P : List ℕ → Type 0) (r : Result (List ℕ) Fault) → MatchResult r P (FaultAt (scan line (drop at t)) line_at) → IsOk r
      filling_there P (Ok ns) h = refl
      filling_there P (Err e) h = absurd (apart s.left s.rest (e.line - line_at) (sym (no_line t at line_at e h count i l) ∙ s.still))

      pub filling_more : (end after : ℕ) (ns : List ℕ) → FormAt line t at line_at end after ns → (m : ℕ) (put : List ℕ)
          → Grown (6 * i) m list put (take 6 ns) → length put ≡ length list → Filling t from count before put end (i + 1)
      filling_more end after ns there m put g k =
          filling_line (take 6 ns) end (line_taken t at line_at end after ns there) (six_long t at line_at end after ns there) there.within l m put
          g
          k

    pub filling_end : count ≤ i → list ≡ in_front (numbers_of (scan (lines count) (drop from t))) before
    unfolding lines scan
    filling_end l =
        let z : count - i ≡ 0 = omega arith in
        let e : taken [] (drop at t) ≡ taken s.left s.rest = rw z at s.still in
        let none : [] ≡ s.left = cc in
        grown_whole (6 * i) before list s.done s.grown
        ∙ ap (λ (x : List ℕ). in_front x before) (sym (s.goes ∙ ap (λ (x : List ℕ). s.done ++ x) (sym none) ∙ append-nil s.done))

-- ---- what a return says

pub reads_refused : (g : Read) (before : List ℕ) (n place cursor : ℕ) (r : Reading) → g ≡ refuse_read n place cursor → r ≡ refused_reading n place cursor
    → Reads g before before r
reads_refused g before n place cursor r e h = rw e (record { told = h; put = refl })

-- a reading into room of a size that is known
pub reads_held : (g : Read) (t before after : List ℕ) (r : Reading) (size : ℕ) → length before ≡ size → g ≡ read_text size t
    → r ≡ (read_text (length before) t).reading → after ≡ in_front (read_text (length before) t).list before → Reads g before after r
reads_held g t before after r size n e h k = rw (e, ← n) (record { told = h; put = k })

-- a list in form has six words an instruction
pub form_long : (t : List ℕ) (count : ℕ) → Whole (scan (lines count) t) → length (numbers_of (scan (lines count) t)) ≡ 6 * count
form_long t count w = (scan_whole (lines count) t _ w.rest w.whole).count ∙ lines_numbers count

module _ (room : ℕ) (s : Settings) (list : List ℕ) where
  pub read_list_unset : settings_good s ≡ false → read_list room s list ≡ refuse_read 3 0 s.cursor
  unfolding read_list
  read_list_unset h = rw (list_unset s list h) (pick_false _ _ _ (ne_eqb 3 0 (λ e. omega arith)))

  module _ (count : ℕ) (f : Found) (e : f ≡ scanned list) (l : length list ≡ 6 * count) (few : count ≤ list_limit) (h : settings_good s ≡ true) where
    is : f ≡ list_answer s list
    is = e ∙ sym (list_scanned s list h (omega arith) (omega arith))

    pub read_list_refused : (f.answer ≡ 0 → ⊥) → read_list room s list ≡ refuse_read f.answer f.place s.cursor
    unfolding read_list
    read_list_refused n = rw (← is) (pick_false _ _ _ (ne_eqb f.answer 0 n))

    pub read_list_short : f.answer ≡ 0 → room < 6 * count → read_list room s list ≡ refuse_read 11 0 0
    unfolding read_list
    read_list_short z k = rw (← is) (pick_true _ _ _ (eq-eqb f.answer 0 z) ∙ pick_false _ _ _ (lt-leb (length list) room (omega arith)))

    pub read_list_filled : f.answer ≡ 0 → 6 * count ≤ room
        → read_list room s list ≡ record { reading = accepted_reading s (length list); list = list }
    unfolding read_list
    read_list_filled z k = rw (← is) (pick_true _ _ _ (eq-eqb f.answer 0 z) ∙ pick_true _ _ _ (le-leb (length list) room (omega arith)))

pub read_list_done : (room : ℕ) (s : Settings) (list : List ℕ) → (list_answer s list).answer ≡ 0 → length list ≤ room
    → read_list room s list ≡ record { reading = accepted_reading s (length list); list = list }
unfolding read_list
read_list_done room s list h l = pick_true _ _ _ (eq-eqb (list_answer s list).answer 0 h) ∙ pick_true _ _ _ (le-leb (length list) room l)

pub reads_filled : (room : ℕ) (s : Settings) (list before after : List ℕ) (n : ℕ) → n ≡ length list
    → read_list room s list ≡ record { reading = accepted_reading s (length list); list = list } → after ≡ in_front list before
    → Reads (read_list room s list) before after (record { settings = s; answer = 0; steps = 0; place = 0; cursor = s.cursor; length = n })
unfolding accepted_reading
reads_filled room s list before after n l e h = rw (e, l) (record { told = refl; put = h })

module _ (f : Format) (room : ℕ) (ns rest : List ℕ) where
  pub read_many : f.limit < count_in ns → read_header f room (taken ns rest) ≡ refuse_read 5 0 (settings_of ns).cursor
  unfolding read_header
  read_many h = pick_false _ _ _ (lt-leb (count_in ns) f.limit h)

  module _ (few : count_in ns ≤ f.limit) where
    onward : read_header f room (taken ns rest) ≡ read_rest f room ns (scan (lines (count_in ns)) rest)
    unfolding read_header
    onward = pick_true _ _ _ (le-leb (count_in ns) f.limit few)

    pub read_faulty : (k : ℕ) → scan (lines (count_in ns)) rest ≡ faulty k → read_header f room (taken ns rest) ≡ refuse_read 10 (first_line f + k) 0
    unfolding read_rest
    read_faulty k e = onward ∙ rw e

    module _ (list extra : List ℕ) (e : scan (lines (count_in ns)) rest ≡ taken list extra) where
      pub read_extra : 0 < length extra → read_header f room (taken ns rest) ≡ refuse_read 10 (first_line f + count_in ns) 0
      unfolding read_rest
      read_extra h = onward ∙ rw e (pick_false _ _ _ (ne_eqb (length extra) 0 (λ z. omega arith)))

      pub read_on : length extra ≡ 0 → read_header f room (taken ns rest) ≡ read_list room (settings_of ns) list
      unfolding read_rest
      read_on h = onward ∙ rw e (pick_true _ _ _ (eq-eqb (length extra) 0 h))

module _ (room : ℕ) (t : List ℕ) where
  pub read_long : text_limit < length t → read_text room t ≡ refuse_read 11 0 0
  unfolding read_text
  read_long h = pick_false _ _ _ (lt-leb (length t) text_limit h)

  module _ (h : length t ≤ text_limit) where
    begun : read_text room t ≡ read_header (format_of t) room (scan (head (format_of t)) t)
    unfolding read_text read_as
    begun = pick_true _ _ _ (le-leb (length t) text_limit h)

    pub read_unheaded : (k : ℕ) → scan (head (format_of t)) t ≡ faulty k → read_text room t ≡ refuse_read 10 (1 + k) 0
    unfolding read_header
    read_unheaded k e = begun ∙ rw e

    pub read_headed : (ns rest : List ℕ) → scan (head (format_of t)) t ≡ taken ns rest → read_text room t ≡ read_header (format_of t) room (taken ns rest)
    read_headed ns rest e = begun ∙ rw e

-- ---- the head

module _ (room : ℕ) (t : List ℕ) (f : Format) (h : length t ≤ text_limit) (e : format_of t ≡ f) where
  pub read_head : (end after : ℕ) (ns : List ℕ) → FormAt (head f) t 0 1 end after ns → numbers (head f) ≡ length ns
      → read_text room t ≡ read_header f room (taken ns (drop end t))
  read_head end after ns there n =
      read_headed room t h ns (drop end t) (rw e (rw (n, take-length ns) at there.scanned)) ∙ rw e refl

  pub read_headless : (c : Fault) → FaultAt (scan (head f) t) 1 c → read_text room t ≡ refuse_read 10 c.line 0
  read_headless c there =
      let n : 1 + (c.line - 1) ≡ c.line = omega (arith, there.onward) in
      read_unheaded room t h (c.line - 1) (rw e there.scanned) ∙ ap (λ (m : ℕ). refuse_read 10 m 0) n

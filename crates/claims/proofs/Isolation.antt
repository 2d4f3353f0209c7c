-- Demand 3. No operation is looked at: a lane's rule is handed its own words, row 0's words of its column and its two cells, so equal ones give
-- equal lanes, equal cells and equal counts. Assumes nothing.
use mathlib.Core.Path.{◌≡◌, refl, sym, ap, ◌∙◌, subst}
use Prim.Native.Nat.{ℕ, zero, suc, ◌+◌, ◌%◌, ◌<◌}
use native.Mathlib.Omega.{arith}
use mathlib.Core.Bool.{Bool, true, false}
use mathlib.Core.List.{List}
use lib.ListN.{length, get_or}
use lib.Dec.{eqb}
use Rattle.lane.specs.declared.Settings.{Settings}
use Rattle.lane.specs.declared.Insn.{Insn}
use Rattle.lane.specs.declared.Cells.{Cells}
use Rattle.lane.specs.Words.{pick, bit, flag_of, Lane, register_stores}
use Rattle.lane.specs.Rule.{is_tied}
use Rattle.lane.specs.Load.{address, place_of, is_met, owner_of}
use Rattle.lane.proofs.Depends.{same_stores, same_lane, same_cells}
use Rattle.lane.proofs.Places.{lies}
use Rattle.runner.specs.Image.{lane_in}
use Rattle.runner.specs.Checks.{insn_at, count_of, run_answer}
use Rattle.runner.specs.Run.{Machine, even_cell, odd_cell, lane_after, image_at, image_after, cells_after, dst_at, dst_after, cursor_after, stepped, steps, begin, finish, stores_in, ties_by, stores_by, count_after, counts_of, when_done, when_refused, outcome_of, run_image, run_dst}
use Rattle.runner.proofs.Lanes.{lane_of_lanes, equal_lanes}
use Rattle.runner.proofs.Accepted.{run_listed}
use Rattle.runner.proofs.Dsts.{own_cell, cell_at}
use Rattle.claims.proofs.Kept.{length_steps}
use Rattle.claims.proofs.Runs.{counted_by}
use Rattle.claims.specs.Claims.{WellFormedImage, SameOutcome, SameColumn, SameCells, Isolated}

-- ---- one lane of the column, over one instruction

module _ (c : ℕ) (a b d e : List ℕ) (la : length a ≡ 768) (lb : length b ≡ 768) (h : SameColumn c a b) (k : SameCells c d e) where
  column_lane : (L : ℕ) → L < 32 → L % 8 ≡ c → lane_in a L ≡ lane_in b L
  unfolding SameColumn
  column_lane L l q = equal_lanes a b L L la lb (λ s m. h L s l q m)

  column_head : (L : ℕ) → L < 32 → L % 8 ≡ c → lane_in a (L % 8) ≡ lane_in b (L % 8)
  column_head L l q = column_lane (L % 8) (omega arith) (omega arith)

  same_cell : (x L : ℕ) (odd : Bool) → x < 1024 → L < 32 → L % 8 ≡ c → get_or d (place_of x L odd) 0 ≡ get_or e (place_of x L odd) 0
  unfolding SameCells
  same_cell x L odd r l q = let p = lies x L odd l in k (place_of x L odd) (p.within r) (p.column ∙ q)

  lane_isolated : (s : Settings) (i : Insn) (x L : ℕ) → x < 1024 → L < 32 → L % 8 ≡ c → lane_after s i x a d L ≡ lane_after s i x b e L
  unfolding lane_after
  lane_isolated s i x L r l q =
      same_lane i.op s x i L (lane_in a (L % 8)) (lane_in b (L % 8)) (even_cell d x L) (even_cell e x L) (odd_cell d x L) (odd_cell e x L)
      (lane_in a L) (lane_in b L) (column_head L l q) (same_cell x L false r l q) (same_cell x L true r l q) (column_lane L l q)

  stores_isolated : (s : Settings) (i : Insn) (x L : ℕ) → x < 1024 → L < 32 → L % 8 ≡ c → stores_in s i x a d L ≡ stores_in s i x b e L
  stores_isolated s i x L r l q =
      ap register_stores
      (same_stores i.op s x i L (lane_in a (L % 8)) (lane_in b (L % 8)) (even_cell d x L) (even_cell e x L) (odd_cell d x L) (odd_cell e x L) (lane_in a L) (lane_in b L)
      (column_head L l q) (same_cell x L false r l q) (same_cell x L true r l q) (column_lane L l q))

  cells_isolated : (i : Insn) (x L : ℕ) → x < 1024 → L < 32 → L % 8 ≡ c → cells_after i x a d L ≡ cells_after i x b e L
  unfolding cells_after
  cells_isolated i x L r l q =
      same_cells i.op x i L (bit (lane_in a (L % 8) 12) 5) (bit (lane_in b (L % 8) 12) 5) (even_cell d x L) (even_cell e x L) (odd_cell d x L) (odd_cell e x L)
      (lane_in a L) (lane_in b L) (ap (λ (f : Lane). bit (f 12) 5) (column_head L l q)) (same_cell x L false r l q) (same_cell x L true r l q)
      (column_lane L l q)

  step_isolated : (s : Settings) (i : Insn) (cursor : ℕ) → SameColumn c (image_after s i cursor a d) (image_after s i cursor b e)
  unfolding SameColumn image_after image_at
  step_isolated s i cursor L t l q m =
      lane_of_lanes (lane_after s i (address i.imm s.offset cursor) a d) L t l m
      ∙ ap (λ (f : Lane). f t) (lane_isolated s i (address i.imm s.offset cursor) L (omega arith) l q)
      ∙ sym (lane_of_lanes (lane_after s i (address i.imm s.offset cursor) b e) L t l m)

  dst_isolated : (s : Settings) (i : Insn) (cursor : ℕ) → SameCells c (dst_after s i cursor a d) (dst_after s i cursor b e)
  unfolding SameCells dst_after dst_at
  dst_isolated s i cursor p l q =
      let x = address i.imm s.offset cursor in
      cell_at x d (cells_after i x a d) p l
      ∙ ap (λ (n : ℕ). pick (is_met x p) (own_cell (cells_after i x a d) p) n) (k p l q)
      ∙ ap (λ (w : Cells). pick (is_met x p) (pick (eqb (p % 2) 1) w.odd w.even) (get_or e p 0))
      (cells_isolated i x (owner_of p) (omega arith) (omega arith) (omega arith))
      ∙ sym (cell_at x e (cells_after i x b e) p l)

-- ---- any number of instructions

-- the cursor is the list's and the settings' alone
cursor_same : (s : Settings) (list a b d e : List ℕ) (n : ℕ) → (steps s list n (begin s a d)).cursor ≡ (steps s list n (begin s b e)).cursor
unfolding steps stepped
cursor_same s list a b d e zero = refl
cursor_same s list a b d e (suc n) = ap (λ (x : ℕ). cursor_after s (insn_at list n) x) (cursor_same s list a b d e n)

steps_isolated : (c : ℕ) (s : Settings) (list a b d e : List ℕ) → length a ≡ 768 → length b ≡ 768 → SameColumn c a b → SameCells c d e
    → (n : ℕ)
    → SameColumn c (steps s list n (begin s a d)).image (steps s list n (begin s b e)).image
    × SameCells c (steps s list n (begin s a d)).dst (steps s list n (begin s b e)).dst
unfolding steps stepped
steps_isolated c s list a b d e la lb h k zero = (h, k)
steps_isolated c s list a b d e la lb h k (suc n) = moved (steps_isolated c s list a b d e la lb h k n)
  where
    A : Machine
    A = steps s list n (begin s a d)

    B : Machine
    B = steps s list n (begin s b e)

    long_a : length A.image ≡ 768
    long_a = length_steps s list n (begin s a d) la

    long_b : length B.image ≡ 768
    long_b = length_steps s list n (begin s b e) lb

    moved : SameColumn c A.image B.image × SameCells c A.dst B.dst
        → SameColumn c (image_after s (insn_at list n) A.cursor A.image A.dst) (image_after s (insn_at list n) B.cursor B.image B.dst)
        × SameCells c (dst_after s (insn_at list n) A.cursor A.image A.dst) (dst_after s (insn_at list n) B.cursor B.image B.dst)
    moved j =
        rw (cursor_same s list a b d e n) (
          step_isolated c A.image B.image A.dst B.dst long_a long_b j.0 j.1 s (insn_at list n) B.cursor,
          dst_isolated c A.image B.image A.dst B.dst long_a long_b j.0 j.1 s (insn_at list n) B.cursor,
        )

-- ---- the checks see nothing of the images' words

answers_same : (s : Settings) (list a b d e : List ℕ) → WellFormedImage a → WellFormedImage b → length d ≡ 16384 → length e ≡ 16384
    → run_answer s a d list ≡ run_answer s b e list
answers_same s list a b d e wa wb ld le = run_listed s a d list wa.long ld wa.good ∙ sym (run_listed s b e list wb.long le wb.good)

-- ---- the theorem

-- a column's own count, instruction by instruction, of whatever machines that agree in the column agree in
SameLane : (Insn → Machine → ℕ → ℕ) → ℕ → Type 0
SameLane more c =
    (i : Insn) (A B : Machine) (L : ℕ) → length A.image ≡ 768 → length B.image ≡ 768 → SameColumn c A.image B.image → SameCells c A.dst B.dst
    → A.cursor ≡ B.cursor
    → L < 32
    → L % 8 ≡ c
    → more i A L ≡ more i B L

counts_isolated : (more : Insn → Machine → ℕ → ℕ) (c : ℕ) → SameLane more c
    → (s : Settings) (list a b d e : List ℕ) → length a ≡ 768 → length b ≡ 768 → SameColumn c a b → SameCells c d e → c < 8
    → (n : ℕ)
    → count_after more s list n (begin s a d) c ≡ count_after more s list n (begin s b e) c
unfolding count_after SameLane
counts_isolated more c same s list a b d e la lb h k l zero = refl
counts_isolated more c same s list a b d e la lb h k l (suc n) =
    cc (
      counts_isolated more c same s list a b d e la lb h k l n,
      lane c (omega arith) (omega arith),
      lane (8 + c) (omega arith) (omega arith),
      lane (16 + c) (omega arith) (omega arith),
      lane (24 + c) (omega arith) (omega arith),
    )
  where
    lane : (L : ℕ) → L < 32 → L % 8 ≡ c
        → more (insn_at list n) (steps s list n (begin s a d)) L ≡ more (insn_at list n) (steps s list n (begin s b e)) L
    lane L m q =
        let j = steps_isolated c s list a b d e la lb h k n in
        same (insn_at list n) (steps s list n (begin s a d)) (steps s list n (begin s b e)) L (length_steps s list n (begin s a d) la)
        (length_steps s list n (begin s b e) lb) j.0 j.1 (cursor_same s list a b d e n) m q

same_ties : (c : ℕ) → SameLane ties_by c
unfolding SameLane
same_ties c i A B L la lb h k e l q =
    ap (λ (own : Lane). flag_of (is_tied i.op i L own)) (column_lane c A.image B.image A.dst B.dst la lb h k L l q)

same_traffic : (c : ℕ) (s : Settings) → SameLane (stores_by s) c
unfolding SameLane
same_traffic c s i A B L la lb h k e l q =
    ap (λ (x : ℕ). stores_in s i (address i.imm s.offset x) A.image A.dst L) e
    ∙ stores_isolated c A.image B.image A.dst B.dst la lb h k s i (address i.imm s.offset B.cursor) L (omega arith) l q

-- one choice made twice keeps a relation, and so do equations
picked : {X : Type 0} (R : X → X → Type 0) (t : Bool) (x y a b : X) → R x y → R a b → R (pick t x a) (pick t y b)
unfolding pick
picked R true x y a b h k = h
picked R false x y a b h k = k

through : {X : Type 0} (R : X → X → Type 0) (x y a b : X) → x ≡ a → y ≡ b → R a b → R x y
through {X} R x y a b p q h = subst (λ (z : X). R z y) (sym p) (subst (λ (z : X). R a z) (sym q) h)

left_same : (c : ℕ) (s : Settings) (list a b d e : List ℕ) → WellFormedImage a → WellFormedImage b → length d ≡ 16384 → length e ≡ 16384
    → SameColumn c a b → SameCells c d e
    → SameOutcome c (outcome_of s a d list) (outcome_of s b e list)
    × (SameColumn c (run_image s a d list) (run_image s b e list) × SameCells c (run_dst s a d list) (run_dst s b e list))
unfolding outcome_of run_image run_dst
left_same c s list a b d e wa wb ld le h k =
    let j = steps_isolated c s list a b d e wa.long wb.long h k (count_of list) in
    let f = run_answer s b e list in
    rw (answers_same s list a b d e wa wb ld le) (
      picked (SameOutcome c) (eqb f.answer 0) (when_done s a d list) (when_done s b e list) (when_refused s f) (when_refused s f)
          (record {
            answer = refl;
            place = refl;
            steps = refl;
            cursor = cursor_same s list a b d e (count_of list);
            ties = own_count ties_by (same_ties c);
            stores = own_count (stores_by s) (same_traffic c s);
          })
          (record { answer = refl; place = refl; steps = refl; cursor = refl; ties = refl; stores = refl }),
      (
        picked (SameColumn c) (eqb f.answer 0) (finish s a d list).image (finish s b e list).image a b j.0 h,
        picked (SameCells c) (eqb f.answer 0) (finish s a d list).dst (finish s b e list).dst d e j.1 k,
      ),
    )
  where
    own_count : (more : Insn → Machine → ℕ → ℕ) → SameLane more c → get_or (counts_of more s a d list) c 0 ≡ get_or (counts_of more s b e list) c 0
    own_count more same =
        counted_by (λ (x y z : ℕ). x ≡ y) (count_after more s list (count_of list) (begin s a d)) (count_after more s list (count_of list) (begin s b e)) (λ c. 0) c
        (λ l. counts_isolated more c same s list a b d e wa.long wb.long h k l (count_of list)) refl

pub isolation : Isolated
unfolding Isolated
isolation c s list a b d e o p x y u v wa wb ld le h k r q =
    let j = left_same c s list a b d e wa wb ld le h k in (
      through (SameOutcome c) o p (outcome_of s a d list) (outcome_of s b e list) r.outcome_is q.outcome_is j.0,
      (
        through (SameColumn c) x y (run_image s a d list) (run_image s b e list) r.image_is q.image_is j.1.0,
        through (SameCells c) u v (run_dst s a d list) (run_dst s b e list) r.dst_is q.dst_is j.1.1,
      ),
    )

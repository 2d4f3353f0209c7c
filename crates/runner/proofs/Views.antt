-- The register view: where it begins, how many words it has, and that both are within the image. Assumes nothing.
use Rattle.std.proofs.Common.{◌≡◌, ℕ, ◌+◌, ◌-◌, ◌*◌, ◌<◌, ◌≤◌, Bool, true, false, ◌&&◌, ◌||◌, eqb, ltb, List, length, take, drop, sym, refl, ap, ◌∙◌, arith, ltb-true, le-ltb, lt-ltb, eqb-true}
use Rattle.lane.specs.Words.{pick, is_stored, slot_of}
use Rattle.lane.proofs.Tables.{and_left, and_right}
use Rattle.lane.proofs.Cases.{pick_true, pick_false}
use Rattle.runner.specs.Image.{word_at, in_view, register_start, register_count, view}

module _ (size r : ℕ) (t : Bool) (e : t ≡ in_view size r) where
  pub some_count : t ≡ true → 32 ≡ register_count size r
  unfolding register_count
  some_count h = sym (pick_true (in_view size r) 32 0 (sym e ∙ h))

  pub no_count : t ≡ false → 0 ≡ register_count size r
  unfolding register_count
  no_count h = sym (pick_false (in_view size r) 32 0 (sym e ∙ h))

  pub no_start : t ≡ false → 0 ≡ register_start size r
  unfolding register_start
  no_start h = sym (pick_false (in_view size r) (word_at (slot_of r) 0) 0 (sym e ∙ h))

  in_start : t ≡ true → word_at (slot_of r) 0 ≡ register_start size r
  unfolding register_start
  in_start h = sym (pick_true (in_view size r) (word_at (slot_of r) 0) 0 (sym e ∙ h))

  pub low_start : t ≡ true → r < 8 → 32 * r ≡ register_start size r
  unfolding pick
  low_start h l = low r l ∙ in_start h
    where
      low : (r : ℕ) → r < 8 → 32 * r ≡ word_at (slot_of r) 0
      low r h = rw (lt-ltb r 8 h) (omega arith)

  pub high_start : t ≡ true → 8 ≤ r → 32 * (r - 3) ≡ register_start size r
  unfolding pick
  high_start h l = high r l ∙ in_start h
    where
      high : (r : ℕ) → 8 ≤ r → 32 * (r - 3) ≡ word_at (slot_of r) 0
      high r h = rw (le-ltb r 8 h) (omega arith)

-- the part lies in the image
below_15 : (r : ℕ) → is_stored r ≡ true → r < 15
below_15 r h = go (ltb r 8) refl h
  where
    go : (t : Bool) → ltb r 8 ≡ t → (t || (ltb 10 r && ltb r 15)) ≡ true → r < 15
    go true e k = omega (arith, ltb-true r 8 e)
    go false e k = ltb-true r 15 (and_right (ltb 10 r) (ltb r 15) k)

slot_low : (r : ℕ) → r < 15 → slot_of r ≤ 11
unfolding pick
slot_low r h = go (ltb r 8) refl
  where
    go : (t : Bool) → ltb r 8 ≡ t → pick t r (r - 3) ≤ 11
    go true e = omega (arith, ltb-true r 8 e)
    go false e = omega arith

pub part_within : (size r : ℕ) → register_start size r + register_count size r ≤ size
unfolding register_start register_count pick
part_within size r = go (in_view size r) refl
  where
    go : (t : Bool) → in_view size r ≡ t → pick t (word_at (slot_of r) 0) 0 + pick t 32 0 ≤ size
    go true e =
        let w : size ≡ 768 = eqb-true size 768 (and_left (eqb size 768) (is_stored r) e) in
        omega (arith, w, slot_low r (below_15 r (and_right (eqb size 768) (is_stored r) e)))
    go false e = omega arith

pub part_small : (size r : ℕ) → register_start size r + register_count size r ≤ 768
unfolding register_start register_count pick
part_small size r = go (in_view size r) refl
  where
    go : (t : Bool) → in_view size r ≡ t → pick t (word_at (slot_of r) 0) 0 + pick t 32 0 ≤ 768
    go true e = omega (arith, slot_low r (below_15 r (and_right (eqb size 768) (is_stored r) e)))
    go false e = omega arith

-- a part from `at` on, of so many words, is the view
pub part_view : (image : List ℕ) (r at count : ℕ) → at ≡ register_start (length image) r → count ≡ register_count (length image) r
    → take ((at + count) - at) (drop at image) ≡ view image r
unfolding view
part_view image r at count p q =
    ap (λ (n : ℕ). take n (drop at image)) (size at count) ∙ ap (λ (n : ℕ). take n (drop at image)) q
    ∙ ap (λ (n : ℕ). take (register_count (length image) r) (drop n image)) p
  where
    size : (a c : ℕ) → (a + c) - a ≡ c
    size a c = omega arith

-- Images as 32 lanes: what a store in place makes of them, and one law for every loop over the lanes. Assumes nothing.
use Rattle.std.proofs.Common.{◌≡◌, ℕ, ◌+◌, ◌*◌, ◌/◌, ◌%◌, ◌<◌, ◌≤◌, Bool, true, false, eqb, ltb, List, [], ◌∷◌, ◌++◌, length, get_or, set, sym, refl, ap, ◌∙◌, lt_of_not-le, arith, length-set, get_or-set_other, get_or-set_same, ext_get_or, le-ltb, lt-ltb, eq-eqb, ne_eqb}
use mathlib.Core.Path.{fun_ext}
use native.Mathlib.Decide.{dec_le, ℕ_discrete}
use lib.ListN.{get_or-eq_default}
use Rattle.lane.specs.Words.{pick, Lane, Stores, build, upd, after}
use Rattle.lane.proofs.Cases.{pick_true, pick_false}
use Rattle.lane.proofs.Stores.{length_build, get_d_build, build_same, upd_same, upd_other, after_agree, after_append}
use Rattle.runner.specs.Image.{lane_in, of_lanes}
use Rattle.runner.specs.PrivateRows.{storing, storing_in}

-- one order or the other
pub split {ℓ} : {X : Type ℓ} (a b : ℕ) → (b ≤ a → X) → (a < b → X) → X
split a b f g = elim (dec_le b a) [ yes h ↦ f h | no h ↦ g (lt_of_not-le h) ]

-- ---- lanes in and out of an image

pub length_lanes : (F : ℕ → Lane) → length (of_lanes F) ≡ 768
unfolding of_lanes
length_lanes F = length_build 768 (λ p. F (p % 32) (p / 32))

pub lane_of_lanes : (F : ℕ → Lane) (L s : ℕ) → L < 32 → s < 24 → lane_in (of_lanes F) L s ≡ F L s
unfolding of_lanes lane_in
lane_of_lanes F L s hL hs =
    get_d_build 768 (λ p. F (p % 32) (p / 32)) (32 * s + L) (omega arith)
    ∙ ap (λ (k : ℕ). F k ((32 * s + L) / 32)) (low s L hL)
    ∙ ap (λ (k : ℕ). F L k) (high s L hL)
  where
    low : (s L : ℕ) → L < 32 → (32 * s + L) % 32 ≡ L
    low s L h = omega arith

    high : (s L : ℕ) → L < 32 → (32 * s + L) / 32 ≡ s
    high s L h = omega arith

-- two images are the same if their lanes are
pub same_lanes : (F G : ℕ → Lane) → ((L s : ℕ) → L < 32 → s < 24 → F L s ≡ G L s) → of_lanes F ≡ of_lanes G
unfolding of_lanes
same_lanes F G h =
    build_same 768 (λ p. F (p % 32) (p / 32)) (λ p. G (p % 32) (p / 32)) (λ p l. h (p % 32) (p / 32) (omega arith) (omega arith))

-- an image of 768 words is made of its own lanes
pub own_lanes : (image : List ℕ) → length image ≡ 768 → of_lanes (lane_in image) ≡ image
unfolding of_lanes lane_in
own_lanes image e =
    ext_get_or 0 (build 768 (λ p. get_or image (32 * (p / 32) + p % 32) 0)) image
    (length_build 768 (λ p. get_or image (32 * (p / 32) + p % 32) 0) ∙ sym e)
    (λ p l. at p (omega (arith, length_build 768 (λ p. get_or image (32 * (p / 32) + p % 32) 0))))
  where
    back : (p : ℕ) → 32 * (p / 32) + p % 32 ≡ p
    back p = omega arith

    at : (p : ℕ) → p < 768 → get_or (build 768 (λ p. get_or image (32 * (p / 32) + p % 32) 0)) p 0 ≡ get_or image p 0
    at p l = get_d_build 768 (λ p. get_or image (32 * (p / 32) + p % 32) 0) p l ∙ ap (λ (k : ℕ). get_or image k 0) (back p)

-- past the last slot a lane of an image holds 0, so lanes are equal functions if they agree below it
pub lane_past : (image : List ℕ) (L s : ℕ) → length image ≡ 768 → 24 ≤ s → lane_in image L s ≡ 0
unfolding lane_in
lane_past image L s e h = get_or-eq_default image 0 (omega arith)

pub equal_lanes : (a b : List ℕ) (L M : ℕ) → length a ≡ 768 → length b ≡ 768 → ((s : ℕ) → s < 24 → lane_in a L s ≡ lane_in b M s) → lane_in a L ≡ lane_in b M
equal_lanes a b L M ea eb h =
    fun_ext (λ s. split s 24 (λ k. lane_past a L s ea k ∙ sym (lane_past b M s eb k)) (λ k. h s k))

-- ---- stores

pub length_storing : (image : List ℕ) (made : ℕ → Stores) → length (storing image made) ≡ 768
unfolding storing
length_storing image made = length_lanes (λ L. after (made L) (lane_in image L))

pub lane_storing : (image : List ℕ) (made : ℕ → Stores) (L s : ℕ) → L < 32 → s < 24 → lane_in (storing image made) L s ≡ after (made L) (lane_in image L) s
unfolding storing
lane_storing image made L s hL hs = lane_of_lanes (λ L. after (made L) (lane_in image L)) L s hL hs

pub storing_same : (image : List ℕ) (a b : ℕ → Stores) → ((L : ℕ) → L < 32 → a L ≡ b L) → storing image a ≡ storing image b
unfolding storing
storing_same image a b h =
    same_lanes (λ L. after (a L) (lane_in image L)) (λ L. after (b L) (lane_in image L))
    (λ L s hL hs. ap (λ (x : Stores). after x (lane_in image L) s) (h L hL))

pub storing_none : (image : List ℕ) (made : ℕ → Stores) → length image ≡ 768 → ((L : ℕ) → L < 32 → made L ≡ []) → storing image made ≡ image
unfolding storing after
storing_none image made e h =
    same_lanes (λ L. after (made L) (lane_in image L)) (lane_in image) (λ L s hL hs. ap (λ (x : Stores). after x (lane_in image L) s) (h L hL))
    ∙ own_lanes image e

pub storing_then : (image : List ℕ) (a b : ℕ → Stores) → storing (storing image a) b ≡ storing image (λ L. a L ++ b L)
unfolding storing
storing_then image a b =
    same_lanes (λ L. after (b L) (lane_in (storing image a) L)) (λ L. after (a L ++ b L) (lane_in image L))
    (λ L s hL hs.
    after_agree (b L) (lane_in (storing image a) L) (after (a L) (lane_in image L)) s (lane_storing image a L s hL hs)
    ∙ ap (λ (f : Lane). f s) (after_append (a L) (b L) (lane_in image L)))

-- ---- stores in one lane

pub pick_append : (t : Bool) (a b : Stores) → pick t a [] ++ pick t b [] ≡ pick t (a ++ b) []
unfolding pick
pick_append true a b = refl
pick_append false a b = refl

pub storing_in_then : (image : List ℕ) (L : ℕ) (a b : Stores) → storing_in (storing_in image L a) L b ≡ storing_in image L (a ++ b)
unfolding storing_in
storing_in_then image L a b =
    storing_then image (λ M. pick (eqb M L) a []) (λ M. pick (eqb M L) b [])
    ∙ storing_same image (λ M. pick (eqb M L) a [] ++ pick (eqb M L) b []) (λ M. pick (eqb M L) (a ++ b) [])
    (λ M h. pick_append (eqb M L) a b)

pub in_then : (image x y : List ℕ) (L : ℕ) (a b : Stores) → x ≡ storing_in image L a → y ≡ storing_in x L b → y ≡ storing_in image L (a ++ b)
in_then image x y L a b p q = q ∙ ap (λ (z : List ℕ). storing_in z L b) p ∙ storing_in_then image L a b

-- one word stored in place
pub put_in : (image : List ℕ) (L s v : ℕ) → length image ≡ 768 → L < 32 → s < 24 → set image (32 * s + L) v ≡ storing_in image L ((s, v) ∷ [])
unfolding storing_in storing after lane_in
put_in image L s v e hL hs =
    sym (own_lanes (set image (32 * s + L) v) (length-set image (32 * s + L) v ∙ e))
    ∙ same_lanes (lane_in (set image (32 * s + L) v)) (λ M. after (pick (eqb M L) ((s, v) ∷ []) []) (lane_in image M)) at
  where
    other : (M t : ℕ) → (32 * t + M ≡ 32 * s + L → ⊥) → lane_in (set image (32 * s + L) v) M t ≡ lane_in image M t
    other M t h = get_or-set_other image (32 * s + L) (32 * t + M) v 0 h

    here : (t : ℕ) → Dec (t ≡ s) → lane_in (set image (32 * s + L) v) L t ≡ upd (lane_in image L) s v t
    here t (yes q) =
        ap (λ (k : ℕ). get_or (set image (32 * s + L) v) (32 * k + L) 0) q
        ∙ get_or-set_same image (32 * s + L) v 0 (omega arith)
        ∙ sym (ap (λ (k : ℕ). upd (lane_in image L) s v k) q ∙ upd_same (lane_in image L) s v)
    here t (no q) = other L t (λ z. q (omega arith)) ∙ sym (upd_other (lane_in image L) s v t q)

    lane : (M t : ℕ) → M < 32 → Dec (M ≡ L) → lane_in (set image (32 * s + L) v) M t ≡ after (pick (eqb M L) ((s, v) ∷ []) []) (lane_in image M) t
    lane M t hM (yes q) =
        ap (λ (k : ℕ). lane_in (set image (32 * s + L) v) k t) q ∙ here t (ℕ_discrete t s)
        ∙ ap (λ (x : Stores). after x (lane_in image L) t) (sym (pick_true (eqb L L) ((s, v) ∷ []) [] (eq-eqb L L refl)))
        ∙ ap (λ (k : ℕ). after (pick (eqb k L) ((s, v) ∷ []) []) (lane_in image k) t) (sym q)
    lane M t hM (no q) =
        other M t (λ z. q (omega arith)) ∙ ap (λ (x : Stores). after x (lane_in image M) t) (sym (pick_false (eqb M L) ((s, v) ∷ []) [] (ne_eqb M L q)))

    at : (M t : ℕ) → M < 32 → t < 24 → lane_in (set image (32 * s + L) v) M t ≡ after (pick (eqb M L) ((s, v) ∷ []) []) (lane_in image M) t
    at M t hM ht = lane M t hM (ℕ_discrete M L)

-- no store in a lane
pub none_in : (image : List ℕ) (L : ℕ) → length image ≡ 768 → storing_in image L [] ≡ image
unfolding storing_in pick
none_in image L e = storing_none image (λ M. pick (eqb M L) [] []) e (λ M h. none (eqb M L))
  where
    none : (t : Bool) → pick {X = Stores} t [] [] ≡ []
    none true = refl
    none false = refl

-- a store under a test, which keeps the word in place where the test fails
pub put_when : (image : List ℕ) (L s v : ℕ) (t : Bool) → length image ≡ 768 → L < 32 → s < 24
    → set image (32 * s + L) (pick t v (get_or image (32 * s + L) 0)) ≡ storing_in image L (pick t ((s, v) ∷ []) [])
unfolding pick
put_when image L s v true e hL hs = put_in image L s v e hL hs
put_when image L s v false e hL hs = kept ∙ sym (none_in image L e)
  where
    kept : set image (32 * s + L) (get_or image (32 * s + L) 0) ≡ image
    kept = lib.Seq.set-get_or image (32 * s + L) 0

-- ---- loops over the lanes: `made L own` are the stores of lane L, whose words are `own`

abbrev pub each_lane : (ℕ → Lane → Stores) → List ℕ → ℕ → Stores
each_lane made image L = made L (lane_in image L)

-- after n turns: the first n lanes have made their stores
pub record Turned (made : ℕ → Lane → Stores) (image : List ℕ) (n : ℕ) (now : List ℕ) : Type 0 where
  pub within : n ≤ 32
  pub stored : now ≡ storing image (λ L. pick (ltb L n) (made L (lane_in image L)) [])

pub turn_start : (made : ℕ → Lane → Stores) (image : List ℕ) → length image ≡ 768 → Turned made image 0 image
turn_start made image e =
    record {
      within = omega arith;
      stored = sym (storing_none image (λ L. pick (ltb L 0) (made L (lane_in image L)) []) e (λ L h. pick_false (ltb L 0) _ [] (le-ltb L 0 (omega arith))));
    }

pub turned_length : (made : ℕ → Lane → Stores) (image : List ℕ) (n : ℕ) (now : List ℕ) → Turned made image n now → length now ≡ 768
turned_length made image n now h =
    ap length h.stored ∙ length_storing image (λ L. pick (ltb L n) (made L (lane_in image L)) [])

-- the lane that a turn works on is as it was at the start
pub turn_lane : (made : ℕ → Lane → Stores) (image : List ℕ) (n : ℕ) (now : List ℕ) → length image ≡ 768 → n < 32 → Turned made image n now → lane_in now n ≡ lane_in image n
unfolding after
turn_lane made image n now e l h =
    equal_lanes now image n n (turned_length made image n now h) e
    (λ s k.
    ap (λ (x : List ℕ). lane_in x n s) h.stored
    ∙ lane_storing image (λ L. pick (ltb L n) (made L (lane_in image L)) []) n s l k
    ∙ ap (λ (x : Stores). after x (lane_in image n) s) (pick_false (ltb n n) (made n (lane_in image n)) [] (le-ltb n n (omega arith))))

pub turn_more : (made : ℕ → Lane → Stores) (image : List ℕ) (n : ℕ) (now next : List ℕ) → length image ≡ 768 → n < 32
    → Turned made image n now
    → next ≡ storing_in now n (made n (lane_in now n))
    → Turned made image (n + 1) next
unfolding storing_in
turn_more made image n now next e l h k =
    record {
      within = omega arith;
      stored = k
          ∙ ap (λ (f : Lane). storing now (λ M. pick (eqb M n) (made n f) [])) (turn_lane made image n now e l h)
          ∙ ap (λ (x : List ℕ). storing x (λ M. pick (eqb M n) (made n (lane_in image n)) [])) h.stored
          ∙ storing_then image (λ L. pick (ltb L n) (made L (lane_in image L)) []) (λ M. pick (eqb M n) (made n (lane_in image n)) [])
          ∙ storing_same image _ (λ L. pick (ltb L (n + 1)) (made L (lane_in image L)) []) (λ L hL. joins L (ℕ_discrete L n));
    }
  where
    below : (L : ℕ) → L < n → pick (ltb L n) (made L (lane_in image L)) [] ++ pick (eqb L n) (made n (lane_in image n)) [] ≡ pick (ltb L (n + 1)) (made L (lane_in image L)) []
    below L h =
        ap (λ (x : Stores). x ++ pick (eqb L n) (made n (lane_in image n)) []) (pick_true (ltb L n) (made L (lane_in image L)) [] (lt-ltb L n h))
        ∙ ap (λ (x : Stores). made L (lane_in image L) ++ x) (pick_false (eqb L n) (made n (lane_in image n)) [] (ne_eqb L n (λ z. omega arith)))
        ∙ ends (made L (lane_in image L))
        ∙ sym (pick_true (ltb L (n + 1)) (made L (lane_in image L)) [] (lt-ltb L (n + 1) (omega arith)))
      where
        ends : (x : Stores) → x ++ [] ≡ x
        ends [] = refl
        ends (y ∷ x) = ap (λ (z : Stores). y ∷ z) (ends x)

    above : (L : ℕ) → n < L → pick (ltb L n) (made L (lane_in image L)) [] ++ pick (eqb L n) (made n (lane_in image n)) [] ≡ pick (ltb L (n + 1)) (made L (lane_in image L)) []
    above L h =
        ap (λ (x : Stores). x ++ pick (eqb L n) (made n (lane_in image n)) []) (pick_false (ltb L n) (made L (lane_in image L)) [] (le-ltb L n (omega arith)))
        ∙ pick_false (eqb L n) (made n (lane_in image n)) [] (ne_eqb L n (λ z. omega arith))
        ∙ sym (pick_false (ltb L (n + 1)) (made L (lane_in image L)) [] (le-ltb L (n + 1) (omega arith)))

    at : pick (ltb n n) (made n (lane_in image n)) [] ++ pick (eqb n n) (made n (lane_in image n)) [] ≡ pick (ltb n (n + 1)) (made n (lane_in image n)) []
    at =
        ap (λ (x : Stores). x ++ pick (eqb n n) (made n (lane_in image n)) []) (pick_false (ltb n n) (made n (lane_in image n)) [] (le-ltb n n (omega arith)))
        ∙ pick_true (eqb n n) (made n (lane_in image n)) [] (eq-eqb n n refl)
        ∙ sym (pick_true (ltb n (n + 1)) (made n (lane_in image n)) [] (lt-ltb n (n + 1) (omega arith)))

    joins : (L : ℕ) → Dec (L ≡ n) → pick (ltb L n) (made L (lane_in image L)) [] ++ pick (eqb L n) (made n (lane_in image n)) [] ≡ pick (ltb L (n + 1)) (made L (lane_in image L)) []
    joins L (yes q) = rw q at
    joins L (no q) = split L n (λ h. above L (omega arith)) (λ h. below L h)

pub turn_end : (made : ℕ → Lane → Stores) (image : List ℕ) (n : ℕ) (now : List ℕ) → 32 ≤ n → Turned made image n now → now ≡ storing image (each_lane made image)
turn_end made image n now l h =
    h.stored ∙ storing_same image (λ L. pick (ltb L n) (made L (lane_in image L)) []) (each_lane made image)
    (λ L k. pick_true (ltb L n) (made L (lane_in image L)) [] (lt-ltb L n (omega arith)))

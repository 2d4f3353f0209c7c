-- Lists built from a function, and what a lane's stores make of its 24 words. Assumes nothing.
use Rattle.std.proofs.Common.{◌≡◌, ℕ, zero, suc, ◌+◌, ◌<◌, ◌≤◌, Bool, true, false, eqb, ◌⊎◌, List, [], ◌∷◌, ◌++◌, length, get_or, set, sym, refl, ap, ◌∙◌, inl, inr, le_of_suc-le-suc, not-suc-le-zero, eq-or-lt_of_le, add-one, arith, length-append, length-set, get_or-set_other, get_or-set_same, ext_get_or, eq-eqb, ne_eqb}
use lib.ListN.{get_or-append}
use lib.Seq.{get_or_at}
use native.Mathlib.Decide.{ℕ_discrete}
use Rattle.lane.specs.Words.{pick, Lane, Stores, build, lane_of, upd, after, words_after}
use Rattle.lane.proofs.Cases.{pick_true, pick_false}

-- a built list has the length asked for, and at each index the function's word

pub length_build : (n : ℕ) (f : ℕ → ℕ) → length (build n f) ≡ n
unfolding build
length_build zero f = refl
length_build (suc n) f = length-append (build n f) (f n ∷ []) ∙ ap (λ (k : ℕ). k + 1) (length_build n f) ∙ add-one n

pub get_d_build : (n : ℕ) (f : ℕ → ℕ) (k : ℕ) → k < n → get_or (build n f) k 0 ≡ f k
unfolding build
get_d_build zero f k h = absurd (not-suc-le-zero h)
get_d_build (suc n) f k h = go (eq-or-lt_of_le (le_of_suc-le-suc h)) (get_d_build n f k)
  where
    go : (k ≡ n) ⊎ (k < n) → (k < n → get_or (build n f) k 0 ≡ f k) → get_or (build n f ++ (f n ∷ [])) k 0 ≡ f k
    go (inl e) r =
        get_or_at (build n f) (f n) [] 0 k (length_build n f ∙ sym e) ∙ ap f (sym e)
    go (inr l) r =
        get_or-append (build n f) (f n ∷ []) 0 k (omega (arith, length_build n f)) ∙ r l

-- two functions that agree below n build the same list
pub build_same : (n : ℕ) (f g : ℕ → ℕ) → ((k : ℕ) → k < n → f k ≡ g k) → build n f ≡ build n g
build_same n f g h =
    ext_get_or 0 (build n f) (build n g) (length_build n f ∙ sym (length_build n g))
    (λ k l. go k (omega (arith, length_build n f)))
  where
    go : (k : ℕ) → k < n → get_or (build n f) k 0 ≡ get_or (build n g) k 0
    go k l = get_d_build n f k l ∙ h k l ∙ sym (get_d_build n g k l)

-- a list is built of its own elements
pub build_own : (n : ℕ) (ws : List ℕ) → length ws ≡ n → build n (lane_of ws) ≡ ws
build_own n ws e =
    ext_get_or 0 (build n (lane_of ws)) ws (length_build n (lane_of ws) ∙ sym e)
    (λ k l. get_d_build n (lane_of ws) k (omega (arith, length_build n (lane_of ws))))

-- what upd changes and what it leaves
pub upd_same : (own : Lane) (s v : ℕ) → upd own s v s ≡ v
unfolding upd
upd_same own s v = pick_true (eqb s s) v (own s) (eq-eqb s s refl)

pub upd_other : (own : Lane) (s v t : ℕ) → (t ≡ s → ⊥) → upd own s v t ≡ own t
unfolding upd
upd_other own s v t h = pick_false (eqb t s) v (own t) (ne_eqb t s h)

-- upd looks at its lane in one place only
pub upd_agree : (f g : Lane) (s v t : ℕ) → f t ≡ g t → upd f s v t ≡ upd g s v t
unfolding upd
upd_agree f g s v t h = ap (λ (x : ℕ). pick (eqb t s) v x) h

-- and so do stores
pub after_agree : (st : Stores) (f g : Lane) (t : ℕ) → f t ≡ g t → after st f t ≡ after st g t
unfolding after
after_agree [] f g t h = h
after_agree (s ∷ st) f g t h = after_agree st (upd f s.0 s.1) (upd g s.0 s.1) t (upd_agree f g s.0 s.1 t h)

pub after_append : (a b : Stores) (f : Lane) → after b (after a f) ≡ after (a ++ b) f
unfolding after
after_append [] b f = refl
after_append (s ∷ a) b f = after_append a b (upd f s.0 s.1)

-- ---- 24 words

-- no store
pub after_none : (ws : List ℕ) → length ws ≡ 24 → words_after [] ws ≡ ws
unfolding after words_after
after_none ws e = build_own 24 ws e

-- one store
pub after_one : (ws : List ℕ) (s v : ℕ) → length ws ≡ 24 → words_after ((s, v) ∷ []) ws ≡ set ws s v
unfolding after words_after
after_one ws s v e =
    ext_get_or 0 (build 24 (upd (lane_of ws) s v)) (set ws s v)
    (length_build 24 (upd (lane_of ws) s v) ∙ sym (length-set ws s v ∙ e))
    (λ k l. at k (omega (arith, length_build 24 (upd (lane_of ws) s v))))
  where
    here : (k : ℕ) → k < 24 → Dec (k ≡ s) → upd (lane_of ws) s v k ≡ get_or (set ws s v) k 0
    here k l (yes h) =
        ap (λ (t : ℕ). upd (lane_of ws) s v t) h ∙ upd_same (lane_of ws) s v
        ∙ sym (ap (λ (t : ℕ). get_or (set ws s v) t 0) h ∙ get_or-set_same ws s v 0 (omega arith))
    here k l (no h) = upd_other (lane_of ws) s v k h ∙ sym (get_or-set_other ws s k v 0 h)

    at : (k : ℕ) → k < 24 → get_or (build 24 (upd (lane_of ws) s v)) k 0 ≡ get_or (set ws s v) k 0
    at k l = get_d_build 24 (upd (lane_of ws) s v) k l ∙ here k l (ℕ_discrete k s)

-- stores, and then more
pub after_then : (a b : Stores) (ws : List ℕ) → words_after b (words_after a ws) ≡ words_after (a ++ b) ws
unfolding words_after
after_then a b ws =
    build_same 24 (after b (lane_of (words_after a ws))) (after (a ++ b) (lane_of ws))
    (λ k l.
    after_agree b (lane_of (words_after a ws)) (after a (lane_of ws)) k (get_d_build 24 (after a (lane_of ws)) k l)
    ∙ ap (λ (f : Lane). f k) (after_append a b (lane_of ws)))

pub then_made : (a b : Stores) (ws x r : List ℕ) → x ≡ words_after a ws → r ≡ words_after b x → r ≡ words_after (a ++ b) ws
then_made a b ws x r h k = k ∙ ap (λ (y : List ℕ). words_after b y) h ∙ after_then a b ws

-- a store past the last slot is none
pub after_past : (ws : List ℕ) (s v : ℕ) → length ws ≡ 24 → 24 ≤ s → ws ≡ words_after ((s, v) ∷ []) ws
unfolding after words_after
after_past ws s v e h =
    sym
    (build_same 24 (upd (lane_of ws) s v) (lane_of ws) (λ k l. upd_other (lane_of ws) s v k (λ q. omega arith)) ∙ build_own 24 ws e)

-- a test between stores
pub choose_true : (t : Bool) (a b : Stores) (ws r : List ℕ) → t ≡ true → r ≡ words_after a ws → r ≡ words_after (pick t a b) ws
choose_true t a b ws r h e = e ∙ ap (λ (x : Stores). words_after x ws) (sym (pick_true t a b h))

pub choose_false : (t : Bool) (a b : Stores) (ws r : List ℕ) → t ≡ false → r ≡ words_after b ws → r ≡ words_after (pick t a b) ws
choose_false t a b ws r h e = e ∙ ap (λ (x : Stores). words_after x ws) (sym (pick_false t a b h))

pub choose_none : (t : Bool) (a : Stores) (ws : List ℕ) → t ≡ false → length ws ≡ 24 → ws ≡ words_after (pick t a []) ws
choose_none t a ws h e = choose_false t a [] ws ws h (sym (after_none ws e))

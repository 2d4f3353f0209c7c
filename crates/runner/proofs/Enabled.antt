-- The masks of the enabled lanes: read at a lane, kept by stores that leave the flags, and kept up by one that doesn't. Assumes nothing.
use Rattle.std.proofs.Common.{◌≡◌, ℕ, ◌<◌, eqb, List, [], ◌∷◌, length, get_or, set, sym, refl, ap, ◌∙◌, arith, length-set, get_or-set_other, get_or-set_same, ne_eqb}
use native.Mathlib.Decide.{ℕ_discrete}
use Rattle.lane.specs.Words.{pick, Lane, Stores, enabled, upd, after}
use Rattle.lane.proofs.Cases.{pick_false}
use Rattle.lane.proofs.Stores.{upd_other}
use Rattle.runner.specs.Image.{lane_in}
use Rattle.runner.specs.PrivateRows.{full, Enabled, storing, storing_in}
use Rattle.runner.proofs.Lanes.{Turned, turn_lane, lane_storing}

-- in a loop over the lanes, the turn's lane is as it was at the start
pub enabled_turn : (made : ℕ → Lane → Stores) (image go : List ℕ) (n : ℕ) (now : List ℕ) → length image ≡ 768 → n < 32 → Enabled go image
    → Turned made image n now
    → get_or go n 0 ≡ full (enabled (lane_in now n))
enabled_turn made image go n now e l g h =
    g.mask_is n l ∙ ap (λ (own : Lane). full (enabled own)) (sym (turn_lane made image n now e l h))

same_enabled : (a b : List ℕ) (L M : ℕ) → lane_in a L 13 ≡ lane_in b M 13 → lane_in a L 14 ≡ lane_in b M 14 → full (enabled (lane_in a L)) ≡ full (enabled (lane_in b M))
same_enabled a b L M p q = cc

-- ---- stores that leave the flags

-- no store to LaneFlag or UseFlag
abbrev pub Quiet : Stores → Type 0
Quiet [] = Unit {0}
Quiet (s ∷ st) = ((s.0 ≡ 13 → ⊥) × (s.0 ≡ 14 → ⊥)) × Quiet st

turned_round : (a b : ℕ) → (a ≡ b → ⊥) → b ≡ a → ⊥
turned_round a b h e = h (sym e)

quiet_flag : (st : Stores) (own : Lane) → Quiet st → after st own 13 ≡ own 13
unfolding after
quiet_flag [] own h = refl
quiet_flag (s ∷ st) own h =
    quiet_flag st (upd own s.0 s.1) h.1 ∙ upd_other own s.0 s.1 13 (turned_round s.0 13 h.0.0)

quiet_use : (st : Stores) (own : Lane) → Quiet st → after st own 14 ≡ own 14
unfolding after
quiet_use [] own h = refl
quiet_use (s ∷ st) own h =
    quiet_use st (upd own s.0 s.1) h.1 ∙ upd_other own s.0 s.1 14 (turned_round s.0 14 h.0.1)

-- a lane that makes such stores is enabled after them exactly if it was
pub quiet_lane : (image x : List ℕ) (made : ℕ → Stores) (L : ℕ) → L < 32 → Quiet (made L) → x ≡ storing image made → enabled (lane_in x L) ≡ enabled (lane_in image L)
quiet_lane image x made L l h e =
    same_test x image L
    (ap (λ (y : List ℕ). lane_in y L 13) e ∙ lane_storing image made L 13 l (omega arith) ∙ quiet_flag (made L) (lane_in image L) h)
    (ap (λ (y : List ℕ). lane_in y L 14) e ∙ lane_storing image made L 14 l (omega arith) ∙ quiet_use (made L) (lane_in image L) h)
  where
    same_test : (a b : List ℕ) (L : ℕ) → lane_in a L 13 ≡ lane_in b L 13 → lane_in a L 14 ≡ lane_in b L 14 → enabled (lane_in a L) ≡ enabled (lane_in b L)
    same_test a b L p q = cc

pub quiet_enabled : (go image x : List ℕ) (made : ℕ → Stores) → ((L : ℕ) → L < 32 → Quiet (made L)) → Enabled go image → x ≡ storing image made → Enabled go x
quiet_enabled go image x made h g e =
    record { size = g.size; mask_is = λ L l. g.mask_is L l ∙ ap full (sym (quiet_lane image x made L l (h L l) e)) }

-- ---- one lane's flags changed, and its mask with them

pub enabled_more : (now next go : List ℕ) (n m : ℕ) (made : Stores) → n < 32 → Enabled go now → next ≡ storing_in now n made
    → m ≡ full (enabled (lane_in next n))
    → Enabled (set go n m) next
unfolding storing_in after
enabled_more now next go n m made l g e k =
    record { size = length-set go n m ∙ g.size; mask_is = λ L h. at L h (ℕ_discrete L n) }
  where
    other : (L s : ℕ) → L < 32 → s < 24 → (L ≡ n → ⊥) → lane_in now L s ≡ lane_in next L s
    other L s hL hs q =
        sym
        (ap (λ (x : List ℕ). lane_in x L s) e ∙ lane_storing now (λ M. pick (eqb M n) made []) L s hL hs
        ∙ ap (λ (x : Stores). after x (lane_in now L) s) (pick_false (eqb L n) made [] (ne_eqb L n q)))

    at : (L : ℕ) → L < 32 → Dec (L ≡ n) → get_or (set go n m) L 0 ≡ full (enabled (lane_in next L))
    at L hL (yes q) =
        ap (λ (j : ℕ). get_or (set go n m) j 0) q ∙ get_or-set_same go n m 0 (omega (arith, g.size)) ∙ k
        ∙ ap (λ (j : ℕ). full (enabled (lane_in next j))) (sym q)
    at L hL (no q) =
        get_or-set_other go n L m 0 q ∙ g.mask_is L hL
        ∙ same_enabled now next L L (other L 13 hL (omega arith) q) (other L 14 hL (omega arith) q)

-- What the result of one instruction depends on: nothing but what the rule is handed. The column theorem rests on `same_lane` and `same_cells`, a theorem
-- for one lane in lists without CONFIG on `lanewise_only`; none looks at an operation. Assumes nothing.
use Rattle.std.proofs.Common.{◌≡◌, ℕ, Bool, eqb, List, sym, ◌∙◌, ne_eqb}
use Rattle.lane.specs.declared.Settings.{Settings}
use Rattle.lane.specs.declared.Insn.{Insn}
use Rattle.lane.specs.declared.Stepped.{Stepped}
use Rattle.lane.specs.Words.{bit, Lane, lane_config, after}
use Rattle.lane.specs.Config.{config}
use Rattle.lane.specs.Rule.{lanewise, stores_of, cells_of}
use Rattle.lane.specs.Refusals.{lane_step}
use Rattle.lane.proofs.Cases.{pick_false}

-- equal own words, equal words in row 0 and equal cells give equal stores
pub same_stores : (op : ℕ) (s : Settings) (a : ℕ) (i : Insn) (L : ℕ) (head head' : Lane) (even even' odd odd' : ℕ) (own own' : Lane)
    → head ≡ head'
    → even ≡ even'
    → odd ≡ odd'
    → own ≡ own'
    → stores_of op s a i L head even odd own ≡ stores_of op s a i L head' even' odd' own'
same_stores op s a i L head head' even even' odd odd' own own' p q r t = cc

-- and so equal lanes
pub same_lane : (op : ℕ) (s : Settings) (a : ℕ) (i : Insn) (L : ℕ) (head head' : Lane) (even even' odd odd' : ℕ) (own own' : Lane)
    → head ≡ head'
    → even ≡ even'
    → odd ≡ odd'
    → own ≡ own'
    → after (stores_of op s a i L head even odd own) own ≡ after (stores_of op s a i L head' even' odd' own') own'
same_lane op s a i L head head' even even' odd odd' own own' p q r t = cc

-- and equal own words, an equal bit of row 0's lane and equal cells give equal cells
pub same_cells : (op a : ℕ) (i : Insn) (L : ℕ) (exchanged exchanged' : Bool) (even even' odd odd' : ℕ) (own own' : Lane)
    → exchanged ≡ exchanged'
    → even ≡ even'
    → odd ≡ odd'
    → own ≡ own'
    → cells_of op a i L exchanged even odd own ≡ cells_of op a i L exchanged' even' odd' own'
same_cells op a i L exchanged exchanged' even even' odd odd' own own' p q r t = cc

-- any operation but CONFIG reads one bit of row 0's lane
pub lanewise_only : (op : ℕ) (s : Settings) (a : ℕ) (i : Insn) (L : ℕ) (head : Lane) (even odd : ℕ) (own : Lane) → (op ≡ 5 → ⊥)
    → stores_of op s a i L head even odd own ≡ lanewise op s.srcb a i L (bit (head lane_config) 5) even odd own
unfolding stores_of
lanewise_only op s a i L head even odd own h =
    pick_false (eqb op 5) (config s.edition i L head own) (lanewise op s.srcb a i L (bit (head lane_config) 5) even odd own)
    (ne_eqb op 5 h)

-- any two outcomes that the lane rules' promise allows coincide
pub coincide : (s : Settings) (L : ℕ) (i : Insn) (own head : List ℕ) (even odd : ℕ) (r r' : Stepped)
    → r ≡ lane_step s L i own head even odd
    → r' ≡ lane_step s L i own head even odd
    → r ≡ r'
coincide s L i own head even odd r r' p q = p ∙ sym q

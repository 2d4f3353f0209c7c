-- Each claim of specs/Claims.antt, proved. Assumes nothing.
use mathlib.Core.Path.{◌≡◌, refl, sym, ap, ◌∙◌}
use Prim.Native.Nat.{ℕ}
use native.Mathlib.Omega.{arith}
use mathlib.Core.Bool.{Bool, not}
use mathlib.Core.List.{List}
use lib.ListN.{length}
use lib.Dec.{eqb}
use borrow.Author.Tests.{ne_eqb}
use Rattle.lane.specs.declared.Settings.{Settings}
use Rattle.lane.specs.Words.{pick, flag_of, build, lane_of, reg, upd, after, words_after}
use Rattle.lane.specs.Load.{fp16, bf16, twos_comp}
use Rattle.lane.specs.Store.{cells}
use Rattle.lane.specs.Swap.{rank, ranks_below}
use Rattle.lane.specs.Lut.{byte_word}
use Rattle.lane.specs.Config.{value_of, combined, lane_config_after, high_store, config_store, config_with, config}
use Rattle.lane.specs.Compute.{extended, iadd_word, inverted, flag_after, word_and_flag, iadd_with, iadd}
use Rattle.lane.specs.Rule.{lanewise, stores_of}
use Rattle.lane.specs.Refusals.{pass, settings_good, fields_good, instruction_answer, lane_answer, lane_step}
use Rattle.lane.proofs.Cases.{pick_false}
use Rattle.lane.proofs.Counted.{at_most_four}
use Rattle.lane.proofs.Places.{lies, never_meet}
use Rattle.lane.proofs.Ranks.{below_is}
use Rattle.lane.proofs.Packed.{packed_unpacked, unpacked_packed}
use Rattle.runner.specs.declared.Outcome.{Outcome}
use Rattle.runner.specs.Checks.{run_answer, list_answer}
use Rattle.runner.specs.Run.{Ran}
use Rattle.runner.proofs.Accepted.{listed}
use Rattle.listing.specs.Listing.{Format, Read, settings_of, listing_in, listing, accepted_reading}
use Rattle.listing.proofs.Writers.{write_done}
use Rattle.claims.specs.Twelve.{same}
use Rattle.claims.specs.Claims as Claims
use Rattle.claims.proofs.Isolation.{isolation}
use Rattle.claims.proofs.Instance as Instance
use Rattle.claims.proofs.Runs as Runs
use Rattle.claims.proofs.Cut.{cut_run}
use Rattle.claims.proofs.Walks as Walks
use Rattle.claims.proofs.WalkInstance as WalkInstance
use Rattle.claims.proofs.Comparison as Comparison
use Rattle.claims.proofs.Back.{gives_back}
use Rattle.claims.proofs.Refusals as Refusals
use Rattle.claims.proofs.Readings.{read_in_format, read_listing, held, held_few, held_listing, read_rewritten, report_rewritten}
use Rattle.claims.proofs.Faults.{ten_names}

-- ---- columns

pub isolated : Claims.Isolated
isolated = isolation

pub two_runs : Claims.TwoRuns
two_runs = Instance.two_runs

-- ---- runs

-- an outcome's answer is that of the checks
answer_is : (s : Settings) (image dst list : List ℕ) (o : Outcome) (x u : List ℕ) → Ran s image dst list o x u → o.answer ≡ (run_answer s image dst list).answer
answer_is s image dst list o x u r = ap (λ (z : Outcome). z.answer) r.outcome_is ∙ Runs.answered s image dst list

pub refusal_touches_nothing : Claims.RefusalTouchesNothing
unfolding Claims.RefusalTouchesNothing
refusal_touches_nothing s image dst list o x u r h =
    let d = Runs.refused s image dst list (λ z. h (answer_is s image dst list o x u r ∙ z)) in
    let e = r.outcome_is ∙ d.0 in (
      r.image_is ∙ d.1.0,
      (
        r.dst_is ∙ d.1.1,
        (
          ap (λ (z : Outcome). z.answer) e,
          (ap (λ (z : Outcome). z.place) e, (ap (λ (z : Outcome). z.steps) e, (ap (λ (z : Outcome). z.cursor) e, (ap (λ (z : Outcome). z.ties) e, ap (λ (z : Outcome). z.stores) e)))),
        ),
      ),
    )

pub refused_lane_touches_nothing : Claims.RefusedLaneTouchesNothing
unfolding Claims.RefusedLaneTouchesNothing lane_step
refused_lane_touches_nothing s L i own head even odd h =
    let other = ne_eqb (lane_answer s L i (lane_of own) (lane_of head)) 0 h in (
      pick_false (eqb (lane_answer s L i (lane_of own) (lane_of head)) 0) _ own other,
      pick_false (eqb (lane_answer s L i (lane_of own) (lane_of head)) 0) _ (cells even odd) other,
    )

pub goes_through_the_list : Claims.GoesThroughTheList
unfolding Claims.GoesThroughTheList
goes_through_the_list s image dst list o x u r h =
    let d = Runs.done s image dst list (sym (answer_is s image dst list o x u r) ∙ h) in
    let e = r.outcome_is ∙ d.0 in (
      ap (λ (z : Outcome). z.steps) e,
      (
        ap (λ (z : Outcome). z.place) e,
        (ap (λ (z : Outcome). z.cursor) e, (r.image_is ∙ d.1.0, (r.dst_is ∙ d.1.1, (ap (λ (z : Outcome). z.ties) e, ap (λ (z : Outcome). z.stores) e)))),
      ),
    )

pub well_formed_stays : Claims.WellFormedStays
unfolding Claims.WellFormedStays
well_formed_stays s image dst list o x u r w =
    record {
      long = ap length r.image_is ∙ Runs.stays_long s image dst list w.long;
      good = rw r.image_is (Runs.stays_good s image dst list w.good);
    }

pub can_be_cut : Claims.CanBeCut
unfolding Claims.CanBeCut
can_be_cut s image dst a b o p q x u middle between end ended six ran h first rest =
    cut_run s a b image dst six (sym (answer_is s image dst _ o x u ran) ∙ h) o p q x u middle between end ended ran first rest

-- ---- SWAP's comparison, and ties

pub one_answer_holds : Claims.OneAnswerHolds
unfolding Claims.OneAnswerHolds
one_answer_holds c d = (Comparison.holds c d, Comparison.alone c d)

pub operands_mirror : Claims.OperandsMirror
unfolding Claims.OperandsMirror
operands_mirror = Comparison.mirror

pub equal_if_the_words_are : Claims.EqualIfTheWordsAre
unfolding Claims.EqualIfTheWordsAre
equal_if_the_words_are = Comparison.words

pub decision_stays : Claims.DecisionStays
unfolding Claims.DecisionStays
decision_stays minimum c d = ap (λ (t : Bool). pick minimum t (not t)) (below_is c d)

pub at_most_four_ties : Claims.AtMostFourTies
unfolding Claims.AtMostFourTies
at_most_four_ties s image dst list o x u c r = rw r.outcome_is (Runs.few_counted s image dst list c).0

-- ---- register traffic

pub at_most_four_in_a_lane : Claims.AtMostFourInALane
unfolding Claims.AtMostFourInALane
at_most_four_in_a_lane = at_most_four

pub at_most_sixteen_stores : Claims.AtMostSixteenStores
unfolding Claims.AtMostSixteenStores
at_most_sixteen_stores s image dst list o x u c r = rw r.outcome_is (Runs.few_counted s image dst list c).1

-- ---- STORE

pub cells_apart : Claims.CellsApart
unfolding Claims.CellsApart
cells_apart a b L M odd other l m = (never_meet a b L M odd other l m, (lies a L odd l).column)

pub packing_inverts : Claims.PackingInverts
unfolding Claims.PackingInverts
packing_inverts = (packed_unpacked, unpacked_packed)

pub stored_then_loaded : Claims.StoredThenLoaded
unfolding Claims.StoredThenLoaded
stored_then_loaded = gives_back

-- ---- walks

pub walks_are_steps : Claims.WalksAreSteps
unfolding Claims.WalksAreSteps
walks_are_steps s image dst list store calls w = Walks.where_it_stands s image dst list store calls w

pub walked_through_is_run : Claims.WalkedThroughIsRun
unfolding Claims.WalkedThroughIsRun
walked_through_is_run s image dst list store calls o after stored w all r = Walks.walked_through s image dst list store calls w o after stored all r

pub only_twelve : Claims.OnlyTwelve
unfolding Claims.OnlyTwelve
only_twelve s image dst list store calls c answer y w h = Walks.only_twelve s image dst list store calls w c answer y h

pub refused_step_touches_nothing : Claims.RefusedStepTouchesNothing
unfolding Claims.RefusedStepTouchesNothing
refused_step_touches_nothing c s list x answer y h n = Walks.stayed s list c x answer y h n

pub walk_over_store : Claims.WalkOverStore
walk_over_store = WalkInstance.walk_over_store

-- ---- listings

pub refused_reading_touches_nothing : Claims.RefusedReadingTouchesNothing
refused_reading_touches_nothing = Refusals.reading_untouched

pub refused_writing_touches_nothing : Claims.RefusedWritingTouchesNothing
refused_writing_touches_nothing = Refusals.writing_untouched

pub written_then_read : Claims.WrittenThenRead
unfolding Claims.WrittenThenRead
written_then_read = read_listing

pub read_then_written : Claims.ReadThenWritten
unfolding Claims.ReadThenWritten accepted_reading
read_then_written room t f e =
    let h = held room t e in
    let s = settings_of h.ns in
    let q : t ≡ listing s h.list = held_listing room t h ∙ ap (λ (x : Format). listing_in x s h.list) f in
    rw h.reads (rw (← q) at (write_done (length t) s h.list (list_answer s h.list) refl h.good (rw (← q) (omega arith))))

pub accepted_exactly_if_writable : Claims.AcceptedExactlyIfWritable
unfolding Claims.AcceptedExactlyIfWritable accepted_reading
accepted_exactly_if_writable room t = (
  λ e. let h = held room t e in (settings_of h.ns, (h.list, (h.good, (held_few room t h, held_listing room t h)))),
  λ f m l w.
      let few = w.1.1.1.0 in
      let q = read_in_format f m room w.0 w.1.0 w.1.1.0 few (omega (arith, (listed w.0 w.1.0 w.1.1.0).checked.six)) in
      rw w.1.1.1.1 (ap (λ (r : Read). r.reading.answer) q),
)

pub rewritten_reads_the_same : Claims.RewrittenReadsTheSame
unfolding Claims.RewrittenReadsTheSame
rewritten_reads_the_same = read_rewritten

pub rewritten_reports_the_same : Claims.RewrittenReportsTheSame
unfolding Claims.RewrittenReportsTheSame
rewritten_reports_the_same = report_rewritten

pub ten_names_the_line : Claims.TenNamesTheLine
unfolding Claims.TenNamesTheLine
ten_names_the_line = ten_names

-- ---- outcomes

pub runs_coincide : Claims.RunsCoincide
unfolding Claims.RunsCoincide
runs_coincide s image dst list o p x y u v r q =
    (r.outcome_is ∙ sym q.outcome_is, (r.image_is ∙ sym q.image_is, r.dst_is ∙ sym q.dst_is))

pub lanes_coincide : Claims.LanesCoincide
unfolding Claims.LanesCoincide
lanes_coincide s L i own head even odd r q a b = a ∙ sym b

pub steps_coincide : Claims.StepsCoincide
unfolding Claims.StepsCoincide
steps_coincide c s list x n k y z a b = (a.answer_is ∙ sym b.answer_is, a.after_is ∙ sym b.after_is)

pub readings_coincide : Claims.ReadingsCoincide
unfolding Claims.ReadingsCoincide
readings_coincide t before x y r q a b = (a.0 ∙ sym b.0, a.1 ∙ sym b.1)

pub writings_coincide : Claims.WritingsCoincide
unfolding Claims.WritingsCoincide
writings_coincide s list before x y w v a b = (a.0 ∙ sym b.0, a.1 ∙ sym b.1)

pub reports_coincide : Claims.ReportsCoincide
unfolding Claims.ReportsCoincide
reports_coincide t before x y r q a b = (a.told ∙ sym b.told, a.put ∙ sym b.put)

-- ---- the twelve, by computing each entry of the table

pub twelve_hold : Claims.TwelveHold
unfolding Claims.TwelveHold pick flag_of build reg upd after words_after fp16 bf16 twos_comp rank ranks_below byte_word value_of combined lane_config_after high_store config_store config_with config extended iadd_word inverted flag_after word_and_flag iadd_with iadd lanewise stores_of pass settings_good fields_good instruction_answer lane_answer lane_step same
twelve_hold = tt

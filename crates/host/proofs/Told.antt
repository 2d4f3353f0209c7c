-- What the layers below told, of the records made from a host's words. Assumes nothing.
use Prim.Native.Nat.{ℕ}
use mathlib.Core.Path.{◌≡◌, ap, ◌∙◌}
use mathlib.Core.List.{List, [], ◌∷◌, ◌++◌}
use lib.ListN.{length, get_or}
use Rattle.lane.specs.declared.Settings.{Settings}
use Rattle.lane.specs.declared.Insn.{Insn}
use Rattle.lane.specs.declared.Stepped.{Stepped}
use Rattle.lane.specs.Words.{build, lane_of}
use Rattle.lane.specs.Refusals.{lane_step}
use Rattle.lane.proofs.Stores.{build_own}
use Rattle.runner.specs.declared.Outcome.{Outcome}
use Rattle.runner.specs.Run.{outcome_of, run_image, run_dst, Ran}
use Rattle.runner.specs.declared.walk.Walk.{Walk}
use Rattle.runner.specs.declared.walk.Begun.{Begun}
use Rattle.runner.specs.declared.walk.Walked.{Walked}
use Rattle.runner.specs.Walk.{begun, standing, Call, Called}
use Rattle.runner.proofs.Steps.{eight_counts}
use Rattle.listing.specs.declared.Reading.{Reading}
use Rattle.listing.specs.declared.Writing.{Writing}
use Rattle.listing.specs.declared.Reporting.{Reporting}
use Rattle.listing.specs.Listing.{read_text, write_list, in_front}
use Rattle.listing.specs.Report.{Printed, reported, reporting, Reports}
use Rattle.host.specs.Words.{outcome_words, begun_words, walk_of, walk_begun, cells_words, settings_words, reading_words, writing_words}

-- an outcome's words one by one, as they are laid out
abbrev pub one_by_one : Outcome → List ℕ
one_by_one o =
    o.answer
    ∷ (o.steps
    ∷ (o.place
    ∷ (o.cursor
    ∷ (get_or o.ties 0 0
    ∷ (get_or o.ties 1 0
    ∷ (get_or o.ties 2 0
    ∷ (get_or o.ties 3 0
    ∷ (get_or o.ties 4 0
    ∷ (get_or o.ties 5 0
    ∷ (get_or o.ties 6 0
    ∷ (get_or o.ties 7 0
    ∷ (get_or o.stores 0 0
    ∷ (get_or o.stores 1 0
    ∷ (get_or o.stores 2 0
    ∷ (get_or o.stores 3 0 ∷ (get_or o.stores 4 0 ∷ (get_or o.stores 5 0 ∷ (get_or o.stores 6 0 ∷ (get_or o.stores 7 0 ∷ [])))))))))))))))))))

laid_out : (o : Outcome) → (length o.ties ≡ 8) × (length o.stores ≡ 8) → one_by_one o ≡ outcome_words o
unfolding outcome_words build
laid_out o e =
    ap (λ (ws : List ℕ). o.answer ∷ (o.steps ∷ (o.place ∷ (o.cursor ∷ (ws ++ build 8 (lane_of o.stores)))))) (build_own 8 o.ties e.0)
    ∙ ap (λ (ws : List ℕ). o.answer ∷ (o.steps ∷ (o.place ∷ (o.cursor ∷ (o.ties ++ ws))))) (build_own 8 o.stores e.1)

pub told_run :
    (s t : Settings) (image dst list left stored : List ℕ) (o : Outcome)
    → s ≡ t
    → Ran s image dst list o left stored
    → (o.answer ≡ (outcome_of t image dst list).answer)
    × ((one_by_one o ≡ outcome_words (outcome_of t image dst list))
    × ((left ≡ run_image t image dst list) × (stored ≡ run_dst t image dst list)))
told_run s t image dst list left stored o e h =
    let eight = eight_counts s image dst list in
    let long : (length o.ties ≡ 8) × (length o.stores ≡ 8) = (ap (λ (x : Outcome). length x.ties) h.outcome_is ∙ eight.0, ap (λ (x : Outcome). length x.stores) h.outcome_is ∙ eight.1) in
    rw (← e)
    (ap (λ (x : Outcome). x.answer) h.outcome_is, (laid_out o long ∙ ap outcome_words h.outcome_is, (h.image_is, h.dst_is)))

-- the start of a walk, as it is told: `walk` are the two words afterwards
pub told_begin :
    (s t : Settings) (image dst list before walk : List ℕ) (b : Begun)
    → s ≡ t
    → b ≡ begun s image dst list
    → walk ≡ walk_begun b before
    → (b.answer ≡ (begun t image dst list).answer)
    × ((begun_words b ≡ begun_words (begun t image dst list)) × (walk ≡ walk_begun (begun t image dst list) before))
told_begin s t image dst list before walk b e h w =
    rw (← e) (ap (λ (x : Begun). x.answer) h, (ap begun_words h, w ∙ ap (λ (x : Begun). walk_begun x before) h))

pub told_step :
    (c : Call) (s t : Settings) (list : List ℕ) (w v : Walk) (image dst store x y z : List ℕ) (r : Walked)
    → s ≡ t
    → w ≡ v
    → Called c s list (standing w image dst store) r.answer (standing r.walk x y z)
    → Called c t list (standing v image dst store) r.answer (standing (walk_of (r.walk.at ∷ (r.walk.cursor ∷ []))) x y z)
unfolding walk_of
told_step c s t list w v image dst store x y z r e f h = rw (← e, ← f) h

pub told_lane :
    (s t : Settings) (L : ℕ) (i j : Insn) (own head : List ℕ) (even odd : ℕ) (o : Stepped)
    → s ≡ t
    → i ≡ j
    → o ≡ lane_step s L i own head even odd
    → (o.answer ≡ (lane_step t L j own head even odd).answer)
    × ((o.words ≡ (lane_step t L j own head even odd).words)
    × (cells_words o.cells ≡ cells_words (lane_step t L j own head even odd).cells))
told_lane s t L i j own head even odd o e f h =
    rw (← e, ← f)
    (ap (λ (x : Stepped). x.answer) h, (ap (λ (x : Stepped). x.words) h, ap (λ (x : Stepped). cells_words x.cells) h))

pub told_read :
    (room : ℕ) (text list left : List ℕ) (r : Reading)
    → (r ≡ (read_text room text).reading) × (left ≡ in_front (read_text room text).list list)
    → (r.answer ≡ (read_text room text).reading.answer)
    × ((settings_words r.settings ≡ settings_words (read_text room text).reading.settings)
    × ((reading_words r ≡ reading_words (read_text room text).reading) × (left ≡ in_front (read_text room text).list list)))
told_read room text list left r h =
    (ap (λ (x : Reading). x.answer) h.0, (ap (λ (x : Reading). settings_words x.settings) h.0, (ap reading_words h.0, h.1)))

pub told_write :
    (s t : Settings) (room : ℕ) (list text left : List ℕ) (r : Writing)
    → s ≡ t
    → (r ≡ (write_list room s list).writing) × (left ≡ in_front (write_list room s list).bytes text)
    → (r.answer ≡ (write_list room t list).writing.answer)
    × ((writing_words r ≡ writing_words (write_list room t list).writing) × (left ≡ in_front (write_list room t list).bytes text))
told_write s t room list text left r e h =
    rw (← e) (ap (λ (x : Writing). x.answer) h.0, (ap writing_words h.0, h.1))

pub told_report :
    (p : Printed) (room left : List ℕ) (r : Reporting)
    → Reports p room left r
    → (r.answer ≡ (reporting (length room) p).answer)
    × ((r.length ≡ (reporting (length room) p).length) × (left ≡ in_front (reported (length room) p.bytes) room))
told_report p room left r h =
    (ap (λ (x : Reporting). x.answer) h.told, (ap (λ (x : Reporting). x.length) h.told, h.put))

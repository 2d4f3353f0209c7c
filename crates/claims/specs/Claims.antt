-- What a registrar may rely on. Each claim stands under one sentence, with its premises; proofs/Claims.antt proves it by its name. They speak of runs
-- by demand 2's rules (`Ran`, which is what `run` promises: crate runner, specs/Run), of a walk's steps (`Called`, which `forward` and `back` promise:
-- specs/Walk), of readings and writings (crate listing, specs/Listing), and of one lane's instruction (crate lane, specs/Refusals).
use Rattle.std.specs.Prelude.{ℕ, zero, suc, ◌+◌, ◌-◌, ◌*◌, ◌/◌, ◌%◌, ◌^◌, ◌<◌, ◌≤◌, ◌≡◌, Bool, true, false, not, List, [], ◌∷◌, ◌++◌, ◌⊎◌, length, get_or, eqb, T}
use Rattle.lane.specs.declared.Settings.{Settings}
use Rattle.lane.specs.declared.Insn.{Insn}
use Rattle.lane.specs.declared.Order.{Order}
use Rattle.lane.specs.declared.Order.TheVariants.{Below, Equal, Above}
use Rattle.lane.specs.declared.Stepped.{Stepped}
use Rattle.lane.specs.Words.{pick, bit, flag_of, Lane, lane_config, reg, enabled, register_stores}
use Rattle.lane.specs.Load.{address, place_of, bf16}
use Rattle.lane.specs.Store.{packed_bf16, cells}
use Rattle.lane.specs.Swap.{rank, ranks_below, compared, out_of_order}
use Rattle.lane.specs.Rule.{stores_of}
use Rattle.lane.specs.Refusals.{lane_step}
use Rattle.runner.specs.declared.Outcome.{Outcome}
use Rattle.runner.specs.Image.{lane_in, image_good}
use Rattle.runner.specs.Checks.{insn_at, count_of, run_answer, list_answer}
use Rattle.runner.specs.Run.{Machine, steps, begin, finish, ties_of, stores_made, no_counts, Ran}
use Rattle.runner.specs.Walk.{Standing, standing, begun, entry_words, entry_in, entry_of, Call, forward, back, Called}
use Rattle.listing.specs.declared.Reading.{Reading}
use Rattle.listing.specs.declared.Writing.{Writing}
use Rattle.listing.specs.declared.Reporting.{Reporting}
use Rattle.listing.specs.Report.{Reports}
use Rattle.listing.specs.Program.{output, rewritten}
use Rattle.listing.specs.Forms.{LF, taken, scan}
use Rattle.listing.specs.Listing.{Format, formats, written, format_of, head, lines, count_in, in_front, accepted_reading, accepted_writing, listing_in, listing, read_text, write_list}
use Rattle.claims.specs.Twelve.{all, twelve}

-- ---- columns

-- An image is well formed: 768 words, and each lane's within their ranges.
pub record WellFormedImage (image : List ℕ) : Type 0 where
  pub long : length image ≡ 768
  pub good : image_good image ≡ true

-- Two images agree in the four lanes of column c.
unfoldable pub SameColumn : ℕ → List ℕ → List ℕ → Type 0
SameColumn c a b = (L s : ℕ) → L < 32 → L % 8 ≡ c → s < 24 → lane_in a L s ≡ lane_in b L s

-- Two Dsts agree in the two columns of lane column c: 2c and 2c + 1 of each row of 16 cells.
unfoldable pub SameCells : ℕ → List ℕ → List ℕ → Type 0
SameCells c d e = (p : ℕ) → p < 16384 → p % 16 / 2 ≡ c → get_or d p 0 ≡ get_or e p 0

-- Two outcomes agree for column c: in answer, place, steps and cursor, and in that column's own counts, of ties and of stores. The other counts are not spoken of.
pub record SameOutcome (c : ℕ) (o p : Outcome) : Type 0 where
  pub answer : o.answer ≡ p.answer
  pub place : o.place ≡ p.place
  pub steps : o.steps ≡ p.steps
  pub cursor : o.cursor ≡ p.cursor
  pub ties : get_or o.ties c 0 ≡ get_or p.ties c 0
  pub stores : get_or o.stores c 0 ≡ get_or p.stores c 0

-- Demand 3: two runs with one list and the same settings that agree in a column's four lanes and its two Dst columns give that column the same
-- words and, in its two Dst columns, the same cells, and the same answer, place, steps, cursor and counts of its own ties and stores, whatever the other seven
-- hold.
unfoldable pub Isolated : Type 0
Isolated =
    (c : ℕ) (s : Settings) (list a b d e : List ℕ) (o p : Outcome) (x y u v : List ℕ)
    → WellFormedImage a
    → WellFormedImage b
    → length d ≡ 16384
    → length e ≡ 16384
    → SameColumn c a b
    → SameCells c d e
    → Ran s a d list o x u
    → Ran s b e list p y v
    → SameOutcome c o p × (SameColumn c x y × SameCells c u v)

-- There are two runs that it speaks of: their images differ outside column 0, and so do their Dsts; the list is accepted, and it changes column 0, its
-- words and its cells; column 0 meets ties and makes stores, and another column's counts differ, of both.
pub record TwoRuns : Type 0 where
  pub settings : Settings
  pub list : List ℕ
  pub image : List ℕ
  pub other_image : List ℕ
  pub dst : List ℕ
  pub other_dst : List ℕ
  pub outcome : Outcome
  pub other_outcome : Outcome
  pub after : List ℕ
  pub other_after : List ℕ
  pub stored : List ℕ
  pub other_stored : List ℕ
  pub formed : WellFormedImage image
  pub other_formed : WellFormedImage other_image
  pub dst_long : length dst ≡ 16384
  pub other_dst_long : length other_dst ≡ 16384
  pub same_column : SameColumn 0 image other_image
  pub same_cells : SameCells 0 dst other_dst
  pub images_differ : SameColumn 1 image other_image → ⊥
  pub dsts_differ : SameCells 1 dst other_dst → ⊥
  pub ran : Ran settings image dst list outcome after stored
  pub other_ran : Ran settings other_image other_dst list other_outcome other_after other_stored
  pub accepted : outcome.answer ≡ 0
  pub changed : SameColumn 0 image after → ⊥
  pub cells_changed : SameCells 0 dst stored → ⊥
  pub tied : get_or outcome.ties 0 0 ≡ 4
  pub counts_differ : get_or outcome.ties 1 0 ≡ get_or other_outcome.ties 1 0 → ⊥
  pub made : get_or outcome.stores 0 0 ≡ 4
  pub stores_differ : get_or outcome.stores 1 0 ≡ get_or other_outcome.stores 1 0 → ⊥

-- Two lanes never meet in a cell of Dst, and a lane's cells lie in the two Dst columns of its own column, whatever the address.
unfoldable pub CellsApart : Type 0
CellsApart =
    (a b L M : ℕ) (odd other : Bool)
    → L < 32
    → M < 32
    → (place_of a L odd ≡ place_of b M other → L ≡ M) × (place_of a L odd % 16 / 2 ≡ L % 8)

-- ---- runs

-- A refusal returns its number and place, steps 0, the given cursor and counts of 0, and touches no word of the image and no cell of Dst.
unfoldable pub RefusalTouchesNothing : Type 0
RefusalTouchesNothing =
    (s : Settings) (image dst list : List ℕ) (o : Outcome) (after stored : List ℕ)
    → Ran s image dst list o after stored
    → (o.answer ≡ 0 → ⊥)
    → (after ≡ image)
    × ((stored ≡ dst)
    × ((o.answer ≡ (run_answer s image dst list).answer)
    × ((o.place ≡ (run_answer s image dst list).place) × ((o.steps ≡ 0) × ((o.cursor ≡ s.cursor) × ((o.ties ≡ no_counts) × (o.stores ≡ no_counts)))))))

-- An instruction that the lane rules refuse leaves the lane's words and its two cells as given.
unfoldable pub RefusedLaneTouchesNothing : Type 0
RefusedLaneTouchesNothing =
    (s : Settings) (L : ℕ) (i : Insn) (own head : List ℕ) (even odd : ℕ)
    → ((lane_step s L i own head even odd).answer ≡ 0 → ⊥)
    → ((lane_step s L i own head even odd).words ≡ own) × ((lane_step s L i own head even odd).cells ≡ cells even odd)

-- A run that is done has gone through the whole list: its steps are the list's instructions, its image, Dst and cursor the ones that they lead to, its ties
-- those that they met, and its stores those that the rules made.
unfoldable pub GoesThroughTheList : Type 0
GoesThroughTheList =
    (s : Settings) (image dst list : List ℕ) (o : Outcome) (after stored : List ℕ)
    → Ran s image dst list o after stored
    → o.answer ≡ 0
    → (o.steps ≡ count_of list)
    × ((o.place ≡ 0)
    × ((o.cursor ≡ (finish s image dst list).cursor)
    × ((after ≡ (finish s image dst list).image) × ((stored ≡ (finish s image dst list).dst) × ((o.ties ≡ ties_of s image dst list) × (o.stores ≡ stores_made s image dst list))))))

-- A well formed image is well formed after every run.
unfoldable pub WellFormedStays : Type 0
WellFormedStays =
    (s : Settings) (image dst list : List ℕ) (o : Outcome) (after stored : List ℕ)
    → Ran s image dst list o after stored
    → WellFormedImage image
    → WellFormedImage after

-- The same settings with another cursor.
unfoldable pub with_cursor : ℕ → Settings → Settings
with_cursor k s =
    record {
      edition = s.edition;
      srcb = s.srcb;
      offset = s.offset;
      cursor = k;
      stride0 = s.stride0;
      stride1 = s.stride1;
      stride2 = s.stride2;
      stride3 = s.stride3;
    }

-- Two parts of a run, with outcomes p and q, come to the whole, with outcome o: both are done, the second ends where the whole does, and steps and each
-- column's ties and stores add up.
pub record PartsOf (o p q : Outcome) (after stored end ended : List ℕ) : Type 0 where
  pub first_done : p.answer ≡ 0
  pub second_done : q.answer ≡ 0
  pub image : end ≡ after
  pub dst : ended ≡ stored
  pub cursor : q.cursor ≡ o.cursor
  pub steps : o.steps ≡ p.steps + q.steps
  pub ties : (c : ℕ) → get_or o.ties c 0 ≡ get_or p.ties c 0 + get_or q.ties c 0
  pub stores : (c : ℕ) → get_or o.stores c 0 ≡ get_or p.stores c 0 + get_or q.stores c 0

-- A run can be cut anywhere: where a list of two parts is done, so is its first part, and so is the second from the image, the Dst and the cursor that the
-- first leaves; it ends in the same image and Dst with the same cursor, and the steps add up, and each column's ties and stores.
unfoldable pub CanBeCut : Type 0
CanBeCut =
    (s : Settings) (image dst a b : List ℕ) (o p q : Outcome) (after stored middle between end ended : List ℕ)
    → length a % 6 ≡ 0
    → Ran s image dst (a ++ b) o after stored
    → o.answer ≡ 0
    → Ran s image dst a p middle between
    → Ran (with_cursor p.cursor s) middle between b q end ended
    → PartsOf o p q after stored end ended

-- ---- SWAP's comparison, and ties

-- What each answer says of c and d: c ranks below d; the ranks are equal; neither.
unfoldable pub Says : Order → ℕ → ℕ → Type 0
Says Below c d = ranks_below c d ≡ true
Says Equal c d = rank c ≡ rank d
Says Above c d = (ranks_below c d ≡ true → ⊥) × (rank c ≡ rank d → ⊥)

-- Exactly one of the three holds, and it is the comparison's answer.
unfoldable pub OneAnswerHolds : Type 0
OneAnswerHolds = (c d : ℕ) → Says (compared c d) c d × ((o : Order) → Says o c d → o ≡ compared c d)

-- Swapping the operands swaps below and above.
abbrev pub mirrored : Order → Order
mirrored Below = Above
mirrored Equal = Equal
mirrored Above = Below

unfoldable pub OperandsMirror : Type 0
OperandsMirror = (c d : ℕ) → compared d c ≡ mirrored (compared c d)

-- The answer for two words is equal exactly if they are.
unfoldable pub EqualIfTheWordsAre : Type 0
EqualIfTheWordsAre = (c d : ℕ) → c < 2 ^ 32 → d < 2 ^ 32 → (compared c d ≡ Equal → c ≡ d) × (c ≡ d → compared c d ≡ Equal)

-- SWAP's decision, taken from that answer, is document 01's: "Wanting the minimum, swap if vc ranks below vd; else swap if vc does not rank below vd."
unfoldable pub DecisionStays : Type 0
DecisionStays = (minimum : Bool) (c d : ℕ) → out_of_order minimum c d ≡ pick minimum (ranks_below c d) (not (ranks_below c d))

-- A column's ties are at most 4 for each instruction done.
unfoldable pub AtMostFourTies : Type 0
AtMostFourTies =
    (s : Settings) (image dst list : List ℕ) (o : Outcome) (after stored : List ℕ) (c : ℕ)
    → Ran s image dst list o after stored
    → get_or o.ties c 0 ≤ 4 * o.steps

-- ---- register traffic

-- No rule makes more than four stores to registers in a lane, whatever the operation.
unfoldable pub AtMostFourInALane : Type 0
AtMostFourInALane =
    (op : ℕ) (s : Settings) (a : ℕ) (i : Insn) (L : ℕ) (head : Lane) (even odd : ℕ) (own : Lane)
    → register_stores (stores_of op s a i L head even odd own) ≤ 4

-- A column's stores are at most 16 for each instruction done.
unfoldable pub AtMostSixteenStores : Type 0
AtMostSixteenStores =
    (s : Settings) (image dst list : List ℕ) (o : Outcome) (after stored : List ℕ) (c : ℕ)
    → Ran s image dst list o after stored
    → get_or o.stores c 0 ≤ 16 * o.steps

-- ---- STORE

-- STORE's mod 2 is the exact inverse of BF16's unpacking on the high half: unpacking what was packed gives the word with its low half 0, for every word;
-- packing what was unpacked gives the cell, for every cell.
unfoldable pub PackingInverts : Type 0
PackingInverts = ((w : ℕ) → bf16 (packed_bf16 w) ≡ w / 2 ^ 16 * 2 ^ 16) × ((x : ℕ) → packed_bf16 (bf16 x) ≡ x)

-- What a LOAD with mod n gives back of a word that a STORE with mod m stored: both in 2 or both in 7, the word with its low half 0; in 6 or 9, its low half.
pub record GivesBack (m n word back : ℕ) : Type 0 where
  pub high : ((m ≡ 2) × (n ≡ 2)) ⊎ ((m ≡ 7) × (n ≡ 7)) → back ≡ word / 2 ^ 16 * 2 ^ 16
  pub low : (m ≡ 6) ⊎ (m ≡ 9) → (n ≡ 6) ⊎ (n ≡ 9) → back ≡ word % 2 ^ 16

-- The address at which an instruction meets Dst, from the machine before it.
abbrev pub address_at : Settings → Insn → Machine → ℕ
address_at s i m = address i.imm s.offset m.cursor

-- A STORE, instruction k of a list, directly followed by a LOAD to a register below 8 at the same address gives it back, from any image and Dst, in a lane
-- that is enabled and not blocked. (It is so for both: STORE changes no flag and no LaneConfig.)
unfoldable pub StoredThenLoaded : Type 0
StoredThenLoaded =
    (s : Settings) (list : List ℕ) (k : ℕ) (m : Machine) (L : ℕ)
    → (insn_at list k).op ≡ 16
    → (insn_at list (suc k)).op ≡ 1
    → (insn_at list (suc k)).vd < 8
    → address_at s (insn_at list (suc k)) (steps s list (suc k) m) ≡ address_at s (insn_at list k) (steps s list k m)
    → L < 32
    → enabled (lane_in (steps s list k m).image L) ≡ true
    → bit (lane_in (steps s list k m).image L lane_config) 1 ≡ false
    → GivesBack (insn_at list k).md (insn_at list (suc k)).md (reg L (lane_in (steps s list k m).image L) (insn_at list k).vd)
    (lane_in (steps s list (suc (suc k)) m).image L (insn_at list (suc k)).vd)

-- ---- walks

-- The cells of a Dst have 16 bits, as every cell has.
unfoldable pub SixteenBits : List ℕ → Type 0
SixteenBits dst = (p : ℕ) → get_or dst p 0 < 2 ^ 16

-- One call of a walk: which it was, what it answered, and where the walk stands then.
pub record Event : Type 0 where
  pub call : Call
  pub answer : ℕ
  pub after : Standing
  pub cells : SixteenBits after.machine.dst

-- Calls made one after the other from x on, the host changing nothing it lent between them: each did what it promises.
abbrev pub Made : Settings → List ℕ → Standing → List Event → Type 0
Made s list x [] = Unit {0}
Made s list x (e ∷ es) = Called e.call s list x e.answer e.after × Made s list e.after es

-- Where the walk stands after them.
abbrev pub last_of : Standing → List Event → Standing
last_of x [] = x
last_of x (e ∷ es) = last_of e.after es

-- How many accepted steps of one kind, forward or back, a call was, and the calls were; a refused call is none.
abbrev pub steps_of : Call → Call → ℕ → ℕ
steps_of forward forward answer = flag_of (eqb answer 0)
steps_of back back answer = flag_of (eqb answer 0)
steps_of forward back answer = 0
steps_of back forward answer = 0

unfoldable pub accepted : Call → List Event → ℕ
accepted c [] = 0
accepted c (e ∷ es) = steps_of c e.call e.answer + accepted c es

-- A walk stands k steps from the start m: image, Dst and cursor are those of k forward steps, k is what the walk says, and entry j of the store, for each j
-- below k, is that of the state after j steps.
pub record StandsAt (s : Settings) (list : List ℕ) (m : Machine) (k : ℕ) (x : Standing) : Type 0 where
  pub machine : x.machine ≡ steps s list k m
  pub done : x.done ≡ k
  pub within : k ≤ count_of list
  pub room : entry_words * k ≤ length x.store
  pub entries : (j : ℕ) → j < k → entry_in x.store j ≡ entry_of s (insn_at list j) (steps s list j m)

-- The start of a walk over a list.
abbrev pub start_of : Settings → List ℕ → List ℕ → List ℕ → List ℕ → Standing
start_of s image dst list store = standing (begun s image dst list).walk image dst store

-- A walk that began well, and the calls that were made.
pub record Walked (s : Settings) (image dst list store : List ℕ) (calls : List Event) : Type 0 where
  pub began : (begun s image dst list).answer ≡ 0
  pub cells : SixteenBits dst
  pub made : Made s list (start_of s image dst list store) calls

-- After n accepted forward and m accepted back steps, in any order, the host changing nothing it lent between calls, image, Dst and cursor are those of n
-- minus m forward steps from the start, and back never passes the start.
unfoldable pub WalksAreSteps : Type 0
WalksAreSteps =
    (s : Settings) (image dst list store : List ℕ) (calls : List Event)
    → Walked s image dst list store calls
    → (accepted back calls ≤ accepted forward calls)
    × StandsAt s list (begin s image dst) (accepted forward calls - accepted back calls) (last_of (start_of s image dst list store) calls)

-- When all of the list was stepped forward, that is the state in which a run ends.
unfoldable pub WalkedThroughIsRun : Type 0
WalkedThroughIsRun =
    (s : Settings) (image dst list store : List ℕ) (calls : List Event) (o : Outcome) (after stored : List ℕ)
    → Walked s image dst list store calls
    → accepted forward calls ≡ count_of list + accepted back calls
    → Ran s image dst list o after stored
    → (last_of (start_of s image dst list store) calls).machine ≡ record { image = after; dst = stored; cursor = o.cursor }

-- A walk that began well meets no refusal but 12.
unfoldable pub OnlyTwelve : Type 0
OnlyTwelve =
    (s : Settings) (image dst list store : List ℕ) (calls : List Event) (c : Call) (answer : ℕ) (y : Standing)
    → Walked s image dst list store calls
    → Called c s list (last_of (start_of s image dst list store) calls) answer y
    → (answer ≡ 0) ⊎ (answer ≡ 12)

-- A refused step changes nothing: image, Dst, cursor, the steps done and the store.
unfoldable pub RefusedStepTouchesNothing : Type 0
RefusedStepTouchesNothing =
    (c : Call) (s : Settings) (list : List ℕ) (x : Standing) (answer : ℕ) (y : Standing)
    → Called c s list x answer y
    → (answer ≡ 0 → ⊥)
    → y ≡ x

-- There is a walk that these speak of: forward over a STORE, which changes Dst; back, to the start; and back once more, which is refused.
pub record WalkOverStore : Type 0 where
  pub settings : Settings
  pub image : List ℕ
  pub dst : List ℕ
  pub list : List ℕ
  pub store : List ℕ
  pub over : Event
  pub returned : Event
  pub refused : Event
  pub walked : Walked settings image dst list store (over ∷ returned ∷ refused ∷ [])
  pub is_store : (insn_at list 0).op ≡ 16
  pub went_over : (over.call ≡ forward) × (over.answer ≡ 0)
  pub went_back : (returned.call ≡ back) × (returned.answer ≡ 0)
  pub stayed : (refused.call ≡ back) × (refused.answer ≡ 12)
  pub changed : over.after.machine.dst ≡ dst → ⊥
  pub restored : returned.after.machine ≡ begin settings image dst

-- ---- listings

-- A refused reading returns length 0, and touches no word of the lent room;
unfoldable pub RefusedReadingTouchesNothing : Type 0
RefusedReadingTouchesNothing =
    (t before after : List ℕ) (r : Reading)
    → (r ≡ (read_text (length before) t).reading) × (after ≡ in_front (read_text (length before) t).list before)
    → (r.answer ≡ 0 → ⊥)
    → (after ≡ before) × (r.length ≡ 0)

-- nor does a refused writing touch a byte of its own.
unfoldable pub RefusedWritingTouchesNothing : Type 0
RefusedWritingTouchesNothing =
    (s : Settings) (list before after : List ℕ) (w : Writing)
    → (w ≡ (write_list (length before) s list).writing) × (after ≡ in_front (write_list (length before) s list).bytes before)
    → (w.answer ≡ 0 → ⊥)
    → (after ≡ before) × (w.length ≡ 0)

-- Whatever is written is read back to the same settings and list.
unfoldable pub WrittenThenRead : Type 0
WrittenThenRead =
    (room : ℕ) (s : Settings) (list : List ℕ)
    → (list_answer s list).answer ≡ 0
    → length list ≤ room
    → read_text room (listing s list) ≡ record { reading = accepted_reading s (length list); list = list }

-- Whatever is read, written again into room enough, gives the same bytes, if it is in the format that is written.
unfoldable pub ReadThenWritten : Type 0
ReadThenWritten =
    (room : ℕ) (t : List ℕ)
    → format_of t ≡ written
    → (read_text room t).reading.answer ≡ 0
    → write_list (length t) (read_text room t).reading.settings (read_text room t).list
    ≡ record { writing = accepted_writing (read_text room t).reading.settings (length t); bytes = t }

-- A format is a row of the table.
unfoldable pub Among : Format → List Format → Type 0
Among f [] = ⊥
Among f (g ∷ gs) = (f ≡ g) ⊎ Among f gs

-- A format's writer could have written a text, from settings and a list that no check refuses, within its limit. It knows the operations added since.
abbrev pub Writable : Format → List ℕ → Type 0
Writable f t =
    (s : Settings)
    × ((list : List ℕ) × (((list_answer s list).answer ≡ 0) × ((count_of list ≤ f.limit) × (t ≡ listing_in f s list))))

-- A text is accepted, given room enough, exactly if its format's writer could have written it: for format 2 that is the library's writer, for an old listing
-- the writer of document 01.
unfoldable pub AcceptedExactlyIfWritable : Type 0
AcceptedExactlyIfWritable =
    (room : ℕ) (t : List ℕ)
    → ((read_text room t).reading.answer ≡ 0 → Writable (format_of t) t)
    × ((f : Format) → Among f formats → 6 * f.limit ≤ room → Writable f t → (read_text room t).reading.answer ≡ 0)

-- A listing in any format reads to the same settings and list as its rewritten form,
unfoldable pub RewrittenReadsTheSame : Type 0
RewrittenReadsTheSame =
    (room : ℕ) (t : List ℕ)
    → (read_text room t).reading.answer ≡ 0
    → read_text room (listing (read_text room t).reading.settings (read_text room t).list) ≡ read_text room t

-- and the program prints the same report for both.
unfoldable pub RewrittenReportsTheSame : Type 0
RewrittenReportsTheSame = (t : List ℕ) → (rewritten t).answer ≡ 0 → output (rewritten t).bytes ≡ output t

-- The first k lines of a text, each with the LF that ends it; the last may lack its own.
unfoldable pub first_lines : ℕ → List ℕ → List ℕ
first_lines zero t = []
first_lines (suc k) [] = []
first_lines (suc k) (b ∷ t) = b ∷ pick (eqb b LF) (first_lines k t) (first_lines (suc k) t)

-- A text in form, fields of the right width, whatever their range: the head of its format, as many instruction lines as it counts, and no more.
pub record InForm (t : List ℕ) : Type 0 where
  pub ns : List ℕ
  pub rest : List ℕ
  pub list : List ℕ
  pub headed : scan (head (format_of t)) t ≡ taken ns rest
  pub lined : scan (lines (count_in ns)) rest ≡ taken list []

-- Line n of t, counted from 1, is the first not in form, missing or extra: the lines before it begin some text in form, and no text in form
-- agrees with t through it.
pub record FirstFault (t : List ℕ) (n : ℕ) : Type 0 where
  pub some : (t' : List ℕ) × (InForm t' × (first_lines (n - 1) t ≡ first_lines (n - 1) t'))
  pub none : (t' : List ℕ) → InForm t' → first_lines n t ≡ first_lines n t' → ⊥

-- 10 names that line.
unfoldable pub TenNamesTheLine : Type 0
TenNamesTheLine =
    (room : ℕ) (t : List ℕ)
    → (read_text room t).reading.answer ≡ 10
    → FirstFault t (read_text room t).reading.place

-- ---- outcomes

-- Any two outcomes that a promise allows coincide, with all that was lent: of `run`,
unfoldable pub RunsCoincide : Type 0
RunsCoincide =
    (s : Settings) (image dst list : List ℕ) (o p : Outcome) (x y u v : List ℕ)
    → Ran s image dst list o x u
    → Ran s image dst list p y v
    → (o ≡ p) × ((x ≡ y) × (u ≡ v))

-- of the lane rules,
unfoldable pub LanesCoincide : Type 0
LanesCoincide =
    (s : Settings) (L : ℕ) (i : Insn) (own head : List ℕ) (even odd : ℕ) (r r' : Stepped)
    → r ≡ lane_step s L i own head even odd
    → r' ≡ lane_step s L i own head even odd
    → r ≡ r'

-- of a walk's steps,
unfoldable pub StepsCoincide : Type 0
StepsCoincide =
    (c : Call) (s : Settings) (list : List ℕ) (x : Standing) (answer answer' : ℕ) (y y' : Standing)
    → Called c s list x answer y
    → Called c s list x answer' y'
    → (answer ≡ answer') × (y ≡ y')

-- of `read`,
unfoldable pub ReadingsCoincide : Type 0
ReadingsCoincide =
    (t before after after' : List ℕ) (r r' : Reading)
    → (r ≡ (read_text (length before) t).reading) × (after ≡ in_front (read_text (length before) t).list before)
    → (r' ≡ (read_text (length before) t).reading) × (after' ≡ in_front (read_text (length before) t).list before)
    → (r ≡ r') × (after ≡ after')

-- of `write`,
unfoldable pub WritingsCoincide : Type 0
WritingsCoincide =
    (s : Settings) (list before after after' : List ℕ) (w w' : Writing)
    → (w ≡ (write_list (length before) s list).writing) × (after ≡ in_front (write_list (length before) s list).bytes before)
    → (w' ≡ (write_list (length before) s list).writing) × (after' ≡ in_front (write_list (length before) s list).bytes before)
    → (w ≡ w') × (after ≡ after')

-- and of the program's work, `replay`.
unfoldable pub ReportsCoincide : Type 0
ReportsCoincide =
    (t before after after' : List ℕ) (r r' : Reporting)
    → Reports (output t) before after r
    → Reports (output t) before after' r'
    → (r ≡ r') × (after ≡ after')

-- ---- the twelve

-- Document 01's twelve, of the rules that contracts cite.
unfoldable pub TwelveHold : Type 0
TwelveHold = T (all twelve)

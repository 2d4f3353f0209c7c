-- Document 02, M-103, "Step backwards": a walk over a list, one step at a time, each with its entry in a lent store, and back.
use Rattle.std.specs.Prelude.{◌≡◌, ℕ, ◌+◌, ◌-◌, ◌*◌, ◌%◌, ◌^◌, Bool, true, ◌&&◌, List, ◌∷◌, ◌++◌, length, take, drop, ◌==◌, nat_le, nat_lt, slice_index}
use Rattle.lane.specs.declared.Settings.{Settings}
use Rattle.lane.specs.declared.Insn.{Insn}
use Rattle.lane.specs.Words.{pick, bit, lane_config, build}
use Rattle.lane.specs.Load.{address, is_odd}
use Rattle.lane.specs.Store.{with_cell}
use Rattle.lane.specs.Refusals.{pass, instruction_answer}
use Rattle.runner.specs.declared.walk.Walk.{Walk}
use Rattle.runner.specs.declared.walk.Begun.{Begun}
use Rattle.runner.specs.Image.{lane_in, head_of}
use Rattle.runner.specs.Checks.{insn_at, count_of, first_answer, run_answer}
use Rattle.runner.specs.Run.{Machine, even_cell, odd_cell, with_cells, stepped}

-- ---- the start

-- "The list is checked whole at the start as before": by a run's checks, and with a run's place. The walk begins with no step done, and the given cursor.
unfoldable pub begun : Settings → List ℕ → List ℕ → List ℕ → Begun
begun s image dst list =
    record {
      answer = (run_answer s image dst list).answer;
      place = (run_answer s image dst list).place;
      walk = record { at = 0; cursor = s.cursor };
    }

-- ---- where a walk stands, and its entries

-- What a step is lent, and what it leaves: the machine, with the walk's cursor; how many steps are done; and the "lent store of words".
pub record Standing : Type 0 where
  pub machine : Machine
  pub done : ℕ
  pub store : List ℕ

abbrev pub standing : Walk → List ℕ → List ℕ → List ℕ → Standing
standing w image dst store =
    record { machine = record { image = image; dst = dst; cursor = w.cursor }; done = w.at; store = store }

-- "each step keeps one entry of 802 words":
abbrev pub entry_words : ℕ
entry_words = 802

-- the image, the cursor, the "starting address", "and the 32 cells that a STORE could overwrite (zeros for other ops)". Of lane L that is the cell which
-- the lane's column choice picks, at address a.
abbrev pub picks_odd : List ℕ → ℕ → ℕ → Bool
picks_odd image a L = is_odd a (bit (lane_in image (head_of L) lane_config) 5)

unfoldable pub kept_cells : ℕ → ℕ → List ℕ → List ℕ → List ℕ
kept_cells op a image dst = build 32 (λ L. pick (op == 16) (pick (picks_odd image a L) (odd_cell dst a L) (even_cell dst a L)) 0)

unfoldable pub entry_at : Insn → ℕ → Machine → List ℕ
entry_at i a m = m.image ++ (m.cursor ∷ (a ∷ kept_cells i.op a m.image m.dst))

unfoldable pub entry_of : Settings → Insn → Machine → List ℕ
entry_of s i m = entry_at i (address i.imm s.offset m.cursor) m

-- Entry k of a store, from its word 802 k on, and the store with another in its place.
abbrev pub entry_in : List ℕ → ℕ → List ℕ
entry_in store k = take entry_words (drop (entry_words * k) store)

unfoldable pub with_entry : ℕ → List ℕ → List ℕ → List ℕ
with_entry k entry store = take (entry_words * k) store ++ (entry ++ drop (entry_words * k + entry_words) store)

-- What an entry holds. A word that is too large for an address, or for a cell, is cut to its bits: the store is the host's.
abbrev pub image_of : List ℕ → List ℕ
image_of entry = take 768 entry

abbrev pub cursor_of : List ℕ → ℕ
cursor_of entry = slice_index entry 768

abbrev pub address_of : List ℕ → ℕ
address_of entry = slice_index entry 769 % 1024

abbrev pub cell_of : List ℕ → ℕ → ℕ
cell_of entry L = slice_index entry (770 + L) % 2 ^ 16

-- The Dst with the 32 cells of an entry back in their places.
unfoldable pub with_kept : List ℕ → List ℕ → List ℕ
with_kept entry dst =
    with_cells (address_of entry) dst
    (λ L.
    with_cell (picks_odd (image_of entry) (address_of entry) L) (cell_of entry L) (even_cell dst (address_of entry) L)
    (odd_cell dst (address_of entry) L))

-- ---- a step forward, and a step back

-- One instruction, the one after those that are done; its entry is kept first.
unfoldable pub forwarded : Settings → List ℕ → Standing → Standing
forwarded s list x =
    record {
      machine = stepped s (insn_at list x.done) x.machine;
      done = x.done + 1;
      store = with_entry x.done (entry_of s (insn_at list x.done) x.machine) x.store;
    }

-- The last instruction taken back, by its entry: image, cursor and, after a STORE, the cells. "A step back frees its entry and that room is used again": what
-- stands there stays until then.
unfoldable pub dst_back : ℕ → List ℕ → List ℕ → List ℕ
dst_back op entry dst = pick (op == 16) (with_kept entry dst) dst

unfoldable pub brought_back : ℕ → List ℕ → List ℕ → Machine
brought_back op entry dst = record { image = image_of entry; dst = dst_back op entry dst; cursor = cursor_of entry }

unfoldable pub backed : List ℕ → Standing → Standing
backed list x =
    record {
      machine = brought_back (insn_at list (x.done - 1)).op (entry_in x.store (x.done - 1)) x.machine.dst;
      done = x.done - 1;
      store = x.store;
    }

-- ---- refusals

-- 1 to 6, as of a run; a walk's cursor above 1023 is 3 too.
unfoldable pub lent_answer : Settings → List ℕ → Machine → ℕ
lent_answer s list m =
    pass (length m.image == 768) 1
    (pass (length m.dst == 16384) 2 (pass (nat_lt m.cursor 1024) 3 (first_answer s m.image m.dst list)))

-- Then "12, store has fewer than 802 free words, .. or forward from the end", the other way round: there is an instruction to go forward to, and room for its
-- entry after those of the steps done.
abbrev pub may_forward : ℕ → ℕ → ℕ → Bool
may_forward done count size = nat_lt done count && nat_le (entry_words * done + entry_words) size

-- And 12 for "a step back from the start", the other way round: there is a step to take back, and there can have been so many, by the list and by the store.
abbrev pub may_back : ℕ → ℕ → ℕ → Bool
may_back done count size = nat_le 1 done && nat_le done count && nat_le (entry_words * done) size

-- After 12, a step forward is refused by 7, 8 and 9 of the instruction at hand.
unfoldable pub next_answer : ℕ → List ℕ → ℕ → ℕ
next_answer done list size = pass (may_forward done (count_of list) size) 12 (instruction_answer true (insn_at list done))

unfoldable pub last_answer : ℕ → List ℕ → ℕ → ℕ
last_answer done list size = pass (may_back done (count_of list) size) 12 0

-- ---- a call

pub data Call : Type 0 where
  forward : Call
  back : Call

-- The first number of two checks, one after the other.
abbrev pub first_of : ℕ → ℕ → ℕ
first_of one next = pick (one == 0) next one

-- What a call answers: 1 to 6, and then those.
unfoldable pub call_answer : Call → Settings → List ℕ → Standing → ℕ
call_answer forward s list x = first_of (lent_answer s list x.machine) (next_answer x.done list (length x.store))
call_answer back s list x = first_of (lent_answer s list x.machine) (last_answer x.done list (length x.store))

unfoldable pub moved : Call → Settings → List ℕ → Standing → Standing
moved forward s list x = forwarded s list x
moved back s list x = backed list x

-- A call that is accepted goes forward or back; a refusal changes nothing.
pub record Called (c : Call) (s : Settings) (list : List ℕ) (x : Standing) (answer : ℕ) (y : Standing) : Type 0 where
  pub answer_is : answer ≡ call_answer c s list x
  pub after_is : y ≡ pick (call_answer c s list x == 0) (moved c s list x) x

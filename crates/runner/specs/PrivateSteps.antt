-- Pass over this page with document 01 in the other hand: it is the vocabulary of private functions, and no promise rests on it. It has
-- what the steps through a list keep beside the image and the Dst.
use Rattle.std.specs.Prelude.{◌≡◌, ℕ, ◌+◌, ◌*◌, ◌^◌, ◌<◌, ◌≤◌, Bool, false, List, length, nat_eq, nat_lt, slice_index}
use Rattle.lane.specs.declared.Settings.{Settings}
use Rattle.lane.specs.declared.Insn.{Insn}
use Rattle.lane.specs.Words.{flag_of, build, enabled}
use Rattle.lane.specs.Load.{address, meets_dst}
use Rattle.runner.specs.Image.{lane_in}
use Rattle.runner.specs.Checks.{count_of}
use Rattle.runner.specs.Run.{Machine, tie_in, stores_in, ties_by, stores_by, over_column, count_after, image_at, image_after, dst_at, dst_after, cursor_after, steps}
use Rattle.runner.specs.declared.Onward.{Onward}
use Rattle.runner.specs.PrivateRows.{Enabled}
use Rattle.runner.specs.PrivateCompute.{changes_flags}

-- The eight counters after an instruction in which lane L has `more L` to count.
unfoldable pub counted : List ℕ → (ℕ → ℕ) → List ℕ
counted counts more = build 8 (λ c. slice_index counts c + over_column more c)

-- There are eight counters, and each has room for n more.
pub record Room (n : ℕ) (counts : List ℕ) : Type 0 where
  pub eight : length counts ≡ 8
  pub free : (c : ℕ) → c < 8 → slice_index counts c + n < 2 ^ 32

-- So many in each lane where a test holds.
abbrev pub times : ℕ → (ℕ → Bool) → ℕ → ℕ
times n e L = n * flag_of (e L)

-- The lanes of an image that are enabled.
abbrev pub enabled_in : List ℕ → ℕ → Bool
enabled_in image L = enabled (lane_in image L)

-- The counters of stores, as they are with what is owed: so many stores to each lane that is enabled.
abbrev pub with_owed : ℕ → List ℕ → List ℕ → List ℕ
with_owed owed stores image = counted stores (times owed (enabled_in image))

-- How they stand after stores in which lane L has `more L` to count, `due` being owed then: nothing is lost, and little is owed.
pub record Tallied (image after : List ℕ) (more : ℕ → ℕ) (owed : ℕ) (stores : List ℕ) (due : ℕ) (stores' : List ℕ) : Type 0 where
  pub sum_is : with_owed due stores' after ≡ counted (with_owed owed stores image) more
  pub few : due ≤ owed + 1
  pub eight : length stores' ≡ 8

-- An instruction that stores at most once in each lane that is enabled, and leaves the flags: none of those that meet Dst, that count their stores, that may
-- change flags or that do nothing.
pub record IsNoted (op m : ℕ) : Type 0 where
  pub meets_no_dst : meets_dst op ≡ false
  pub changes_no_flags : changes_flags op m ≡ false
  pub no_lut : nat_eq op 3 ≡ false
  pub no_swap : nat_eq op 4 ≡ false
  pub no_config : nat_eq op 5 ≡ false
  pub no_nop : nat_eq op 15 ≡ false

-- What it leaves, whatever the settings, the address and the Dst are: its stores are owed.
pub record Noted (i : Insn) (image after go : List ℕ) : Type 0 where
  pub image_is : (s : Settings) (a : ℕ) (dst : List ℕ) → after ≡ image_at s i a image dst
  pub enabled_is : Enabled go after
  pub stores_are : (s : Settings) (a : ℕ) (dst : List ℕ) (owed : ℕ) (stores : List ℕ) → length stores ≡ 8
      → Tallied image after (stores_in s i a image dst) owed stores (owed + flag_of (nat_lt i.vd 8)) stores

-- What an instruction that may change flags leaves: its stores were counted before it, with all that was owed.
pub record Flagged (i : Insn) (image after go : List ℕ) (owed : ℕ) (stores stores' : List ℕ) : Type 0 where
  pub image_is : (s : Settings) (a : ℕ) (dst : List ℕ) → after ≡ image_at s i a image dst
  pub enabled_is : Enabled go after
  pub stores_are : (s : Settings) (a : ℕ) (dst : List ℕ) → Tallied image after (stores_in s i a image dst) owed stores 0 stores'

-- What an instruction leaves that does not meet Dst and changes no flags: no address and no Dst has a part in it.
pub record Stored (s : Settings) (i : Insn) (image after go ties ties' : List ℕ) (owed : ℕ) (stores : List ℕ) (due : ℕ) (stores' : List ℕ) : Type 0 where
  pub image_is : (a : ℕ) (dst : List ℕ) → after ≡ image_at s i a image dst
  pub enabled_is : Enabled go after
  pub ties_is : ties' ≡ counted ties (tie_in i image)
  pub stores_are : (a : ℕ) (dst : List ℕ) → Tallied image after (stores_in s i a image dst) owed stores due stores'

-- What an instruction that meets Dst leaves, at address a: the masks of the lanes that are enabled stay.
pub record Met (s : Settings) (i : Insn) (a : ℕ) (image dst after stored go : List ℕ) (owed : ℕ) (stores stores' : List ℕ) : Type 0 where
  pub image_is : after ≡ image_at s i a image dst
  pub dst_is : stored ≡ dst_at i a image dst
  pub enabled_is : Enabled go after
  pub stores_are : Tallied image after (stores_in s i a image dst) owed stores owed stores'

-- What an instruction leaves: the cursor, the image, the Dst, the masks of the lanes that are enabled, the ties, and the stores with what is owed.
pub record Left (s : Settings) (i : Insn) (cursor : ℕ) (image dst ties : List ℕ) (owed : ℕ) (stores : List ℕ) (next : Onward) (after stored go ties' stores' : List ℕ) : Type 0 where
  pub cursor_is : next.cursor ≡ cursor_after s i cursor
  pub image_is : after ≡ image_after s i cursor image dst
  pub dst_is : stored ≡ dst_after s i cursor image dst
  pub enabled_is : Enabled go after
  pub ties_is : ties' ≡ counted ties (tie_in i image)
  pub stores_are : Tallied image after (stores_in s i (address i.imm s.offset cursor) image dst) owed stores next.owed stores'

-- A whole list, from a given cursor.
abbrev pub starting : ℕ → List ℕ → List ℕ → Machine
starting cursor image dst = record { image = image; dst = dst; cursor = cursor }

abbrev pub from : Settings → ℕ → List ℕ → List ℕ → List ℕ → Machine
from s cursor image dst list = steps s list (count_of list) (starting cursor image dst)

-- What it leaves: the cursor, the image, the Dst, the ties and the stores.
pub record Through (s : Settings) (cursor : ℕ) (image dst list : List ℕ) (last : ℕ) (after stored ties stores : List ℕ) : Type 0 where
  pub cursor_is : last ≡ (from s cursor image dst list).cursor
  pub image_is : after ≡ (from s cursor image dst list).image
  pub dst_is : stored ≡ (from s cursor image dst list).dst
  pub ties_is : ties ≡ build 8 (count_after ties_by s list (count_of list) (starting cursor image dst))
  pub stores_is : stores ≡ build 8 (count_after (stores_by s) s list (count_of list) (starting cursor image dst))

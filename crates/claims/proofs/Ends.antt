-- How many lines an item ends, and that it ends none where it is not there. Assumes nothing.
use mathlib.Core.Path.{◌≡◌, sym}
use Prim.Native.Nat.{ℕ, ◌≤◌}
use native.Mathlib.Omega.{arith}
use mathlib.Core.Bool.{Bool, true, false}
use mathlib.Core.List.{List, [], ◌∷◌}
use lib.Dec.{eqb}
use Rattle.lane.specs.Words.{pick}
use Rattle.lane.proofs.Cases.{pick_le}
use Rattle.listing.specs.Forms.{Item, lit, dec, hex, name, LF, taken, faulty, ends, scan_item, scan_byte, scan_number, scan_name}
use Rattle.listing.proofs.Trips.{apart}

pub ends_one : (i : Item) → ends i ≤ 1
unfolding ends
ends_one (lit c) = pick_le (eqb c LF) 1 0 1 (omega arith) (omega arith)
ends_one (dec w) = omega arith
ends_one (hex w) = omega arith
ends_one name = omega arith

fault_if : (b : Bool) (ms t : List ℕ) (j : ℕ) → pick b (taken ms t) (faulty 0) ≡ faulty j → j ≡ 0
unfolding pick
fault_if true ms t j e = absurd (apart ms t j (sym e))
fault_if false ms t j e = cc

fault_else : (b : Bool) (ms t : List ℕ) (j : ℕ) → pick b (faulty 0) (taken ms t) ≡ faulty j → j ≡ 0
unfolding pick
fault_else true ms t j e = cc
fault_else false ms t j e = absurd (apart ms t j (sym e))

fault_byte : (c : ℕ) (t : List ℕ) (j : ℕ) → scan_byte c t ≡ faulty j → j ≡ 0
unfolding scan_byte
fault_byte c [] j e = cc
fault_byte c (b ∷ t) j e = fault_if _ _ _ j e

-- an item ends a line only where it is taken
pub item_fault : (i : Item) (t : List ℕ) (j : ℕ) → scan_item i t ≡ faulty j → j ≡ 0
unfolding scan_item scan_number scan_name
item_fault (lit c) t j e = fault_byte c t j e
item_fault (dec w) t j e = fault_if _ _ _ j e
item_fault (hex w) t j e = fault_if _ _ _ j e
item_fault name t j e = fault_else _ _ _ j e

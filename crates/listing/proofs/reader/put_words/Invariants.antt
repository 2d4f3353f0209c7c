use Rattle.std.proofs.Common.{◌≡◌, ◌+◌, length, take}
use Rattle.listing.specs.PrivatePlaces.{Grown}
use Rattle.listing.proofs.reader.put_words.Given as goal

abbrev pub invariant-loop-j : goal.invariant-loop-j
invariant-loop-j l = Grown l.at (l.at + l.j) l.initial.list l.list (take l.j l.words) × (length l.list ≡ length l.initial.list)

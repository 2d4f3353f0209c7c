use Rattle.runner.specs.Checks.{count_of}
use Rattle.listing.proofs.Writers.{Putting}
use Rattle.listing.proofs.writer.put_lines.Given as goal

abbrev pub invariant-loop-insn : goal.invariant-loop-insn
invariant-loop-insn l = Putting l.list l.place (count_of l.list) l.initial.text l.text l.at l.insn-index

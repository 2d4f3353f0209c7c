use Rattle.runner.specs.Checks.{count_of}
use Rattle.listing.proofs.Writers.{Counting}
use Rattle.listing.proofs.writer.lines_length.Given as goal

abbrev pub invariant-loop-insn : goal.invariant-loop-insn
invariant-loop-insn l = Counting l.list (count_of l.list) l.n l.insn-index

use Rattle.std.proofs.Common.{◌≤◌}
use Rattle.vectors.specs.declared.text.TheConstants.{TEXT}
use Rattle.vectors.proofs.reading_case.make_text.Given as goal

abbrev pub invariant-loop : goal.invariant-loop
invariant-loop g l = l.from ≤ TEXT

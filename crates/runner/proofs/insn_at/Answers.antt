use Rattle.std.proofs.Common.{◌∙◌}
use Rattle.runner.proofs.Scan.{insn_in}
use Rattle.runner.proofs.insn_at.Goals as goal

pub returns : goal.returns
returns c = c.from.ensures ∙ insn_in c.as_chunks.result.0.now c.args.list.now c.args.k c.as_chunks.ensures.front c.requires

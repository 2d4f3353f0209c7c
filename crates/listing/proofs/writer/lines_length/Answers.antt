use Rattle.std.proofs.Common.{◌<◌, [], get_or, ap, arith}
use mathlib.Core.Path.{◌∙◌}
use Rattle.runner.specs.Checks.{count_of}
use Rattle.listing.specs.PrivateLines.{line_length}
use Rattle.listing.proofs.LineRows.{length_line}
use Rattle.listing.proofs.Writers.{op_in, counting_start, counting_more, counting_end}
use Rattle.listing.proofs.writer.lines_length.Goals as goal

pub loop-insn-init : goal.loop-insn-init
loop-insn-init c = counting_start _ _

pub line_length-n-requires : goal.line_length-n-requires
line_length-n-requires c = let p = c.as_chunks.ensures in let l : c.loop-insn.insn-index < count_of c.args.list.now = omega (arith, p.front_len) in
    rw (op_in _ c.args.list.now _ p.front l) (c.requires.1 _ l)

pub overflow_add-n : goal.overflow_add-n
overflow_add-n c = omega (arith, c.line_length-n.ensures, length_line (get_or (get_or c.as_chunks.result.0.now c.loop-insn.insn-index []) 0 0), c.loop-insn.invariant.few, c.loop-insn.invariant.up_to)

pub loop-insn-preserved : goal.loop-insn-preserved
loop-insn-preserved c = let p = c.as_chunks.ensures in let l : c.loop-insn.insn-index < count_of c.args.list.now = omega (arith, p.front_len) in
    counting_more _ _ _ _ c.loop-insn.invariant l c.line_length-n.result (c.line_length-n.ensures ∙ ap line_length (op_in _ c.args.list.now _ p.front l))

pub returns : goal.returns
returns c = counting_end _ _ _ _ c.loop-insn.invariant (omega (arith, c.as_chunks.ensures.front_len))

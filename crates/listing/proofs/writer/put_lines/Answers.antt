use Rattle.std.proofs.Common.{◌<◌, arith}
use Rattle.runner.specs.Checks.{count_of}
use Rattle.listing.proofs.Writers.{op_in, line_in, putting_start, putting_room, putting_more, putting_end}
use Rattle.listing.proofs.writer.put_lines.Goals as goal

pub loop-insn-init : goal.loop-insn-init
loop-insn-init c = putting_start _ _ _ _

pub put_line-at-requires : goal.put_line-at-requires
put_line-at-requires c = let p = c.as_chunks.ensures in let l : c.loop-insn.insn-index < count_of c.args.list.now = omega (arith, p.front_len) in
    let n = c.requires.1 _ l in
    rw (op_in _ c.args.list.now _ p.front l) (n.0, (n.1, putting_room _ _ _ _ _ _ _ c.loop-insn.invariant c.requires.2 l))

pub loop-insn-preserved : goal.loop-insn-preserved
loop-insn-preserved c = let p = c.as_chunks.ensures in let l : c.loop-insn.insn-index < count_of c.args.list.now = omega (arith, p.front_len) in
    putting_more _ _ _ _ _ _ _ c.loop-insn.invariant c.put_line-at.result c.put_line-at.new.out l (rw (line_in _ c.args.list.now _ p.front l) at c.put_line-at.ensures) c.put_line-at.auto.out

pub shape_of-text : goal.shape_of-text
shape_of-text c = c.loop-insn.invariant.same

pub returns : goal.returns
returns c = putting_end _ _ _ _ _ _ _ c.loop-insn.invariant (omega (arith, c.as_chunks.ensures.front_len))

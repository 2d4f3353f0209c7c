use Rattle.std.proofs.Common.{ℕ, ◌/◌, ◌<◌, length, sym, ap, ◌∙◌, arith, rules}
use Rattle.lane.proofs.Answers.{numbered}
use Rattle.runner.proofs.Scan.{scan_on, scan_stop, scan_end, scan_start, insn_in}
use Rattle.runner.specs.Checks.{found}
use Rattle.runner.proofs.checks.scanned.Goals as goal

pub loop-k-init : goal.loop-k-init
loop-k-init c = (search rules, scan_start _ _)

pub returns-in-Err : goal.returns-in-Err
returns-in-Err c =
    let l : c.loop-k.k < length c.args.list.now / 6 = omega (arith, c.as_chunks.ensures.front_len, c.loop-k-test.true) in
    let e = rw (c.from.ensures, insn_in c.as_chunks.result.0.now c.args.list.now c.loop-k.k c.as_chunks.ensures.front l) at c.in-Err.ensures in
    sym (c.loop-k.invariant.1 ∙ scan_stop c.args.list.now (length c.args.list.now / 6) c.loop-k.k l (λ z. numbered c.in-Err.why (e ∙ z)) ∙ ap (λ (x : ℕ). found x c.loop-k.k) (sym e))

pub loop-k-preserved : goal.loop-k-preserved
loop-k-preserved c =
    let l : c.loop-k.k < length c.args.list.now / 6 = omega (arith, c.as_chunks.ensures.front_len, c.loop-k-test.true) in
    let e = rw (c.from.ensures, insn_in c.as_chunks.result.0.now c.args.list.now c.loop-k.k c.as_chunks.ensures.front l) at c.in_default.ensures in
    (omega (arith, l), c.loop-k.invariant.1 ∙ scan_on c.args.list.now (length c.args.list.now / 6) c.loop-k.k l (sym e))

pub returns : goal.returns
returns c = sym (c.loop-k.invariant.1 ∙ scan_end _ _ _ (omega (arith, c.as_chunks.ensures.front_len, c.loop-k-test.false)))

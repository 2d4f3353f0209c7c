use Rattle.std.proofs.Common.{◌∙◌, arith, rules}
use Rattle.runner.proofs.Quick.{union_none, union_more, union_good}
use Rattle.runner.proofs.checks.image_good.Goals as goal

pub loop-n-init : goal.loop-n-init
loop-n-init c = (search rules, (union_none _ 12, (union_none _ 13, (union_none _ 14, union_none _ 23))))

pub loop-n-preserved : goal.loop-n-preserved
loop-n-preserved c = let h = c.loop-n.invariant.1 in (omega arith, (union_more _ 12 _ _ _ h.0 c.word_at-config.ensures, (union_more _ 13 _ _ _ h.1.0 c.word_at-flag.ensures, (union_more _ 14 _ _ _ h.1.1.0 c.word_at-uses.ensures, union_more _ 23 _ _ _ h.1.1.1 c.word_at-misc.ensures))))

pub returns : goal.returns
returns c = c.well_formed-2.ensures ∙ union_good _ _ _ _ _ _ (omega arith) c.loop-n.invariant.1.0 c.loop-n.invariant.1.1.0 c.loop-n.invariant.1.1.1.0 c.loop-n.invariant.1.1.1.1

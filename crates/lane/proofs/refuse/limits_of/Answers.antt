use Rattle.std.proofs.Common.{◌∙◌, arith}
use Rattle.lane.proofs.Fields.{no_row}
use Rattle.lane.specs.Refusals.{limits_of}
use Rattle.lane.proofs.refuse.limits_of.Goals as goal

pub returns-in-1 : goal.returns-in-1
unfolding limits_of
returns-in-1 c = simp (c.in-1.is, c.row.ensures)

pub returns-in-2 : goal.returns-in-2
unfolding limits_of
returns-in-2 c = simp (c.in-2.is, c.row-in-2.ensures)

pub returns-in-3 : goal.returns-in-3
unfolding limits_of
returns-in-3 c = simp (c.in-3.is, c.row-in-3.ensures)

pub returns-in-4 : goal.returns-in-4
unfolding limits_of
returns-in-4 c = simp (c.in-4.is, c.row-in-4.ensures)

pub returns-in-5 : goal.returns-in-5
unfolding limits_of
returns-in-5 c = simp (c.in-5.is, c.row-in-5.ensures)

pub returns-in-6 : goal.returns-in-6
unfolding limits_of
returns-in-6 c = simp (c.in-6.is, c.row-in-6.ensures)

pub returns-in-7 : goal.returns-in-7
unfolding limits_of
returns-in-7 c = simp (c.in-7.is, c.row-in-7.ensures)

pub returns-in-8 : goal.returns-in-8
unfolding limits_of
returns-in-8 c = simp (c.in-8.is, c.row-in-8.ensures)

pub returns-in-9 : goal.returns-in-9
unfolding limits_of
returns-in-9 c = simp (c.in-9.is, c.row-in-9.ensures)

pub returns-in-10 : goal.returns-in-10
unfolding limits_of
returns-in-10 c = simp (c.in-10.is, c.row-in-10.ensures)

pub returns-in-11 : goal.returns-in-11
unfolding limits_of
returns-in-11 c = simp (c.in-11.is, c.row-in-11.ensures)

pub returns-in-12 : goal.returns-in-12
unfolding limits_of
returns-in-12 c = simp (c.in-12.is, c.row-in-12.ensures)

pub returns-in-13 : goal.returns-in-13
unfolding limits_of
returns-in-13 c = simp (c.in-13.is, c.row-in-13.ensures)

pub returns-in-14 : goal.returns-in-14
unfolding limits_of
returns-in-14 c = simp (c.in-14.is, c.row-in-14.ensures)

pub returns-in-15 : goal.returns-in-15
unfolding limits_of
returns-in-15 c = simp (c.in-15.is, c.row-in-15.ensures)

pub returns-in-16 : goal.returns-in-16
unfolding limits_of
returns-in-16 c = simp (c.in-16.is, c.row-in-16.ensures)

pub returns-in_default : goal.returns-in_default
unfolding limits_of
returns-in_default c = c.row-in_default.ensures ∙ no_row c.args.op (λ l. omega arith)

use Rattle.cyl_alloc.proofs.Counted.{counts_taken, counts_given, counts_same, counts_one, sum_is}
use Rattle.cyl_alloc.proofs.laws.counts_follow.Goals as goal

pub returns-clause-taken : goal.returns-clause-taken
returns-clause-taken c image kept n old e counts was is = counts_taken image kept n old e counts was is

pub returns-clause-given : goal.returns-clause-given
returns-clause-given c image kept n old e counts was is = counts_given image kept n old e counts was is

pub returns-clause-same : goal.returns-clause-same
returns-clause-same c image kept n old e counts was is = counts_same image kept n old e counts was is

pub returns-clause-one : goal.returns-clause-one
returns-clause-one c = counts_one

pub returns-clause-sum : goal.returns-clause-sum
returns-clause-sum c = sum_is

-- Only an object array has nulls.
use Rattle.std.proofs.Common.{eq-eqb, ne_eqb}
use Rattle.phd_counts.specs.Counts.{nulls_of}
use Rattle.phd_counts.proofs.row_nulls.Goals as goal

pub returns-then-row-eq3 : goal.returns-then-row-eq3
unfolding nulls_of
returns-then-row-eq3 c = rw (eq-eqb _ 3 c.if-row-eq3.true) c.saturating_sub.ensures

pub returns-else-row-eq3 : goal.returns-else-row-eq3
unfolding nulls_of
returns-else-row-eq3 c = rw (ne_eqb _ 3 c.if-row-eq3.false)

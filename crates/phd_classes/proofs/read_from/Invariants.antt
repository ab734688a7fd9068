-- A stage of the reading; the dump after the cursor is left.
use Rattle.std.proofs.Common.{◌-◌, length}
use Rattle.phd_classes.proofs.ReadStages.{Stage}
use Rattle.phd_classes.proofs.read_from.Given as goal

abbrev pub invariant-loop-end : goal.invariant-loop-end
invariant-loop-end l = Stage l.dump l.fn.rows l.fn.refs l.fn.classes l.s l.rows l.refs l.buckets l.classes

abbrev pub decreases-loop-end : goal.decreases-loop-end
decreases-loop-end l = length l.dump - l.s.cursor.at

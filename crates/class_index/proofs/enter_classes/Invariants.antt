-- The invariant of `enter_classes`: the rows from the current one on are certified, unless one of them could not be entered, and the class words
-- are those of these rows.
use Rattle.table.specs.Rows.{rows_of}
use Rattle.classic.specs.PrimitiveClasses.{ClassesFrom}
use Rattle.class_index.proofs.EnterSteps.{EnteredFrom}
use Rattle.class_index.proofs.enter_classes.Given as goal

abbrev pub invariant-loop-i : goal.invariant-loop-i
invariant-loop-i l = record {
  classes : ClassesFrom l.names l.rows l.i l.primitives;
  entered : EnteredFrom (rows_of l.rows) l.buckets l.i l.certified;
}

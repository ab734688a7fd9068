-- `enter_classes` satisfies its contract.
use Rattle.std.proofs.Common.{◌-◌, arith, refl}
use Rattle.table.specs.Table.{row_count}
use Rattle.table.specs.Rows.{all_at}
use Rattle.classic.specs.RowBounds.{RowNumbersInBounds}
use Rattle.classic.specs.PrimitiveClasses.{classes_start, classes_step, classes_end}
use Rattle.class_index.proofs.BucketSteps.{class_row_of}
use Rattle.class_index.proofs.EnterSteps.{entered_start, entered_class, entered_other, entered_end}
use Rattle.class_index.proofs.enter_classes.Goals as goal
use Rattle.class_index.proofs.enter_classes.Goals.{then-certified+then-row-eq1, else-certified, else-certified-via-then-certified+else-row-eq1, else-certified-via-else-certified}

pub loop-i-init : goal.loop-i-init
unfolding row_count
loop-i-init c = record { classes = classes_start _ _ _ refl; entered = entered_start _ _ _ refl }

pub row_at-row-requires : goal.row_at-row-requires
unfolding row_count
row_at-row-requires c = omega arith

pub enter_and_check-certified-requires-clause-i_bound : goal.enter_and_check-certified-requires-clause-i_bound
unfolding row_count
enter_and_check-certified-requires-clause-i_bound c = let m = c.requires.rows_bound in omega arith

pub enter_and_check-certified-requires-clause-class_row : goal.enter_and_check-certified-requires-clause-class_row
unfolding row_count
enter_and_check-certified-requires-clause-class_row c = class_row_of _ _ _ (omega arith) c.row_at-row.ensures c.if-row-eq1.true

pub enter_row-requires : goal.enter_row-requires
unfolding row_count
enter_row-requires c = (rw (← c.row_at-row.ensures) at (all_at (RowNumbersInBounds c.args.names.now) c.args.rows.now (c.loop-i.i - 1) c.requires.all_numbers_in_bounds.row (omega arith))).name_in_bounds

pub loop-i-preserved : goal.loop-i-preserved
unfolding row_count
loop-i-preserved c = record {
  classes = classes_step _ _ _ _ _ _ c.loop-i.invariant.classes c.loop-i-test.true c.row_at-row.ensures c.enter_row.ensures;
  entered = let most = c.loop-i.invariant.classes.most in elim c.if-certified.branch [
    | then-certified+then-row-eq1 w ↦ rw (w.buckets-is, w.certified-is)
        (entered_class _ _ _ _ _ _ c.loop-i-test.true most c.row_at-row.ensures w.if-row-eq1.true (rw w.if-certified.true at c.loop-i.invariant.entered) w.enter_and_check-certified.ensures.buckets w.enter_and_check-certified.ensures.is)
    | else-certified w ↦ rw (w.buckets-is, w.certified-is) (entered_other _ _ _ _ _ c.loop-i-test.true most c.row_at-row.ensures w.else-certified.either c.loop-i.invariant.entered)
  ];
}

pub returns : goal.returns
returns c = record {
  primitives = classes_end _ _ _ _ c.loop-i.invariant.classes (omega arith);
  buckets = entered_end _ _ _ _ (omega arith) c.loop-i.invariant.entered;
}

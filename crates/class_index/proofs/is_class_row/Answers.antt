-- `is_class_row` satisfies its contract.
use Rattle.std.proofs.Common.{arith, eq-eqb, ne_eqb}
use Rattle.table.specs.Table.{row_count}
use Rattle.table.specs.RowBytes.{is_class_at}
use Rattle.class_index.proofs.BucketSteps.{class_row_test, no_class_row}
use Rattle.class_index.proofs.is_class_row.Goals as goal

pub row_at-row-requires : goal.row_at-row-requires
unfolding row_count
row_at-row-requires c = omega arith

pub returns-then-row-eq1 : goal.returns-then-row-eq1
unfolding row_count is_class_at
returns-then-row-eq1 c = rw (← class_row_test c.args.rows.now c.args.i c.args.address c.row_at-row.result (omega arith) c.row_at-row.ensures, eq-eqb _ _ c.if-row-eq1.true)

pub returns-else-row-eq1 : goal.returns-else-row-eq1
unfolding row_count is_class_at
returns-else-row-eq1 c = rw (← class_row_test c.args.rows.now c.args.i c.args.address c.row_at-row.result (omega arith) c.row_at-row.ensures, ne_eqb _ _ c.if-row-eq1.false)

pub returns-else-i-rows : goal.returns-else-i-rows
unfolding row_count
returns-else-i-rows c = no_class_row _ _ _ (omega arith)

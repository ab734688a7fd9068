-- The kind of the row decides which count grows.
use Rattle.phd_counts.specs.CountLoop.{add_row_at, add_row_other}
use Rattle.phd_counts.proofs.Tally.add_row.Goals as goal

pub returns-in-Some-Class : goal.returns-in-Some-Class
returns-in-Some-Class c = add_row_at c.args.self c.args.row 1 (rw c.in-Some-Class.field-0-is at c.in-Some-Class.ensures) c.row_nulls-unlisted.ensures

pub returns-in-Some-Object : goal.returns-in-Some-Object
returns-in-Some-Object c = add_row_at c.args.self c.args.row 2 (rw c.in-Some-Object.field-0-is at c.in-Some-Object.ensures) c.row_nulls-unlisted.ensures

pub returns-in-Some-ObjectArray : goal.returns-in-Some-ObjectArray
returns-in-Some-ObjectArray c = add_row_at c.args.self c.args.row 3 (rw c.in-Some-ObjectArray.field-0-is at c.in-Some-ObjectArray.ensures) c.row_nulls-unlisted.ensures

pub returns-in-Some-PrimitiveArray : goal.returns-in-Some-PrimitiveArray
returns-in-Some-PrimitiveArray c = add_row_at c.args.self c.args.row 4 (rw c.in-Some-PrimitiveArray.field-0-is at c.in-Some-PrimitiveArray.ensures) c.row_nulls-unlisted.ensures

pub returns-in-None : goal.returns-in-None
returns-in-None c = add_row_other c.args.self c.args.row c.in-None.ensures c.row_nulls-unlisted.ensures

-- The kind of the row decides which conditions are checked.
use Rattle.std.proofs.Common.{ne_eqb}
use Rattle.phd_check.specs.GoodRows.{good_kind}
use Rattle.phd_check.proofs.CheckLaws.{kind_at}
use Rattle.phd_check.proofs.numbers.kind_good.Goals as goal

pub returns-in-Some-Class : goal.returns-in-Some-Class
returns-in-Some-Class c = rw (kind_at c.args.available c.args.r 1 (rw c.in-Some-Class.field-0-is at c.in-Some-Class.ensures)) c.class_good.ensures

pub returns-in-Some-Object : goal.returns-in-Some-Object
returns-in-Some-Object c = rw (kind_at c.args.available c.args.r 2 (rw c.in-Some-Object.field-0-is at c.in-Some-Object.ensures)) c.object_good.ensures

pub returns-in-Some-ObjectArray : goal.returns-in-Some-ObjectArray
returns-in-Some-ObjectArray c = rw (kind_at c.args.available c.args.r 3 (rw c.in-Some-ObjectArray.field-0-is at c.in-Some-ObjectArray.ensures)) c.array_good.ensures

pub returns-in-Some-PrimitiveArray : goal.returns-in-Some-PrimitiveArray
returns-in-Some-PrimitiveArray c = rw (kind_at c.args.available c.args.r 4 (rw c.in-Some-PrimitiveArray.field-0-is at c.in-Some-PrimitiveArray.ensures)) c.primitive_good.ensures

pub returns-in-None : goal.returns-in-None
unfolding good_kind
returns-in-None c =
    let n = c.in-None.ensures in
    rw (ne_eqb _ 1 n.0, ne_eqb _ 2 n.1, ne_eqb _ 3 n.2, ne_eqb _ 4 n.3)

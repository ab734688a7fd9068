-- `enter_row` satisfies its contract.
use Rattle.classic.proofs.ClassRowTests.{entered, not_entered, no_class_entered}
use Rattle.classic.proofs.primitives.enter_row.Goals as goal

pub returns-in-Some : goal.returns-in-Some
returns-in-Some c =
    let a = c.args in
    entered a.names.now a.row a.classes.now c.told-classes c.if-row-eq1.true _ (rw c.name_of.ensures at c.prim_named.ensures) _ c.in-Some.is

pub returns-in_default : goal.returns-in_default
returns-in_default c =
    let a = c.args in
    not_entered a.names.now a.row a.classes.now c.told-classes c.if-row-eq1.true _ (rw c.name_of.ensures at c.prim_named.ensures) c.in_default.is

pub returns-else-row-eq1 : goal.returns-else-row-eq1
returns-else-row-eq1 c = no_class_entered _ _ _ c.told-classes c.if-row-eq1.false

-- A batch of as many rows as entries are left, or one record that needs none.
use Rattle.std.proofs.Common.{◌+◌, refl, subst, inl, inr, arith}
use Rattle.phd_classes.specs.ReadState.{EntryNeeded, reads}
use Rattle.phd_classes.proofs.batches.advance.Goals as goal

pub returns-then-used-entries : goal.returns-then-used-entries
returns-then-used-entries c =
    let l = c.if-used-entries.true in
    let h = c.min-most.ensures in
    reads (c.args.s.now.cursor.rows + c.min-most.result) (omega (arith, h)) c.read_up_to.ensures refl (inl (omega (arith, h)))

pub returns-else-needs_entry : goal.returns-else-needs_entry
returns-else-needs_entry c =
    let a = c.args in
    reads (a.s.now.cursor.rows + 1) (omega arith) c.read_up_to-else-needs_entry.ensures refl
    (inr (refl, subst (EntryNeeded a.dump.now a.rows.now a.refs.now a.s.now) c.if-needs_entry.false c.needs_entry.ensures))

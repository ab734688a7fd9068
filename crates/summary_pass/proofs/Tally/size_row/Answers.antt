-- A class row sizes the entry of its address, if there is one.
use Rattle.std.proofs.Common.{◌∙◌, eq-eqb, ne_eqb}
use Rattle.summary_pass.proofs.FromEntry.{found_place}
use Rattle.summary_pass.proofs.SizeRow.{row_is, other_sized, class_nowhere, class_sized}
use Rattle.summary_pass.proofs.Tally.size_row.Goals as goal

pub returns-then-at-self : goal.returns-then-at-self
returns-then-at-self c =
    let r = c.requires in
    let e = row_is r.0 r.1 r.2 c.row_at-row.ensures in
    rw (c.size_entry.ensures, e)
    (class_sized r.0 r.1 r.2 (rw (← e) (eq-eqb _ _ c.if-row-eq1.true)) _ (c.find_entry-at.ensures ∙ rw (← e) (found_place r.0 r.1 _ _ c.seek_from-from.ensures)) c.if-at-self.true)

pub returns-else-at-self : goal.returns-else-at-self
returns-else-at-self c =
    let r = c.requires in
    let e = row_is r.0 r.1 r.2 c.row_at-row.ensures in
    class_nowhere r.0 r.1 r.2 (rw (← e) (eq-eqb _ _ c.if-row-eq1.true)) _ (c.find_entry-at.ensures ∙ rw (← e) (found_place r.0 r.1 _ _ c.seek_from-from.ensures)) c.if-at-self.false

pub returns-else-row-eq1 : goal.returns-else-row-eq1
returns-else-row-eq1 c =
    let r = c.requires in
    let e = row_is r.0 r.1 r.2 c.row_at-row.ensures in
    other_sized r.0 r.1 r.2 (rw (← e) (ne_eqb _ _ c.if-row-eq1.false))

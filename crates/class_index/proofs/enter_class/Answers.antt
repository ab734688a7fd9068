-- `enter_class` satisfies its contract.
use Rattle.std.proofs.Common.{sym, ◌∙◌, inl, inr}
use Rattle.class_index.specs.Entering.{entering_keeps}
use Rattle.class_index.proofs.enter_class.Goals as goal
use Rattle.class_index.proofs.enter_class.Goals.{then-entry-eq0-via-then-entry-eq0, then-entry-eq0-via-else-entry-eq0+then-is_class_row}

pub returns-then-entry-eq0 : goal.returns-then-entry-eq0
returns-then-entry-eq0 c =
    rw c.loop-at.invariant
    (entering_keeps _ _ _ c.requires.class_row _ _
    (elim c.then-entry-eq0.branch [
      | then-entry-eq0-via-then-entry-eq0 w ↦ inl (rw c.loop-at.invariant at w.if-entry-eq0.true)
      | then-entry-eq0-via-else-entry-eq0+then-is_class_row w ↦ inr (rw c.loop-at.invariant at (sym w.is_class_row.ensures ∙ w.if-is_class_row.true))
    ]))

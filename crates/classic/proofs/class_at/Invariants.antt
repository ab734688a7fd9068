-- The invariant of `class_at`: searching the rows that are left gives the result for all rows.
use Rattle.table.specs.RowBytes.{is_class_at}
use Rattle.table.specs.Search.{SearchInvariant}
use Rattle.classic.proofs.class_at.Given as goal

abbrev pub invariant-loop-i : goal.invariant-loop-i
invariant-loop-i l = SearchInvariant (is_class_at l.address) l.rows l.i

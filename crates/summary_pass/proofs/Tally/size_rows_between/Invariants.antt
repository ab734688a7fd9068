-- The class rows before this row have sized the entries.
use Rattle.summary_pass.specs.PassState.{Sized}
use Rattle.summary_pass.proofs.Tally.size_rows_between.Given as goal

abbrev pub invariant-loop-i : goal.invariant-loop-i
invariant-loop-i l = Sized l.rows l.fn.classes l.self l.i l.classes

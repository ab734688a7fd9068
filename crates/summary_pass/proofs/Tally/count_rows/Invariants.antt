-- The rows before this one have been counted.
use Rattle.summary_pass.specs.PassState.{Counted}
use Rattle.summary_pass.proofs.Tally.count_rows.Given as goal

abbrev pub invariant-loop-row : goal.invariant-loop-row
invariant-loop-row l = Counted l.rows l.fn.classes l.fn.self l._row l.buckets l.classes l.tally

-- No row before row i has the key.
use Rattle.std.proofs.Common.{◌≡◌, false}
use Rattle.summaries.specs.EntrySteps.{numbers}
use Rattle.phd_classes.specs.ReadState.{key_among}
use Rattle.phd_classes.proofs.batches.key_among_rows.Given as goal

abbrev pub invariant-loop-i : goal.invariant-loop-i
invariant-loop-i l = key_among l.rows l.i (numbers l.key) ≡ false

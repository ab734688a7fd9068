-- The index finds a key in use, if it is complete; otherwise the rows counted are searched.
use Rattle.std.proofs.Common.{take, sym, ◌∙◌}
use Rattle.table.specs.Rows.{rows_of}
use Rattle.summaries.specs.EntrySteps.{numbers}
use Rattle.phd_classes.specs.KeyAmong.{among_keys, found_in_use, not_found_not_in_use}
use Rattle.phd_classes.proofs.batches.has_entry.Goals as goal

pub returns-in-Some : goal.returns-in-Some
returns-in-Some c = sym (found_in_use c.requires.index.index (numbers c.args.key) _ (sym c.find.ensures ∙ c.in-Some.is))

pub returns-in-None : goal.returns-in-None
returns-in-None c = sym (not_found_not_in_use c.requires.index.index (numbers c.args.key) c.if-tally.true (sym c.find.ensures ∙ c.in-None.is))

pub returns-in-None-2 : goal.returns-in-None-2
returns-in-None-2 c = c.key_among_rows.ensures ∙ among_keys (numbers c.args.key) (take c.args.tally.counted (rows_of c.args.rows.now))

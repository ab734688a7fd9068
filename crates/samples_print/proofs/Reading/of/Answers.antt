-- What `Reading::of` returns of each table is what the reading stored. Assumes nothing.
use Rattle.samples_print.proofs.Reading.of.Goals as goal
use Rattle.samples_print.proofs.StoredPart.{stored_rows, stored_refs}

pub returns-clause-rows : goal.returns-clause-rows
returns-clause-rows c = cc (stored_rows c.args.dump.now c.fill.new.self _ _ c.fill.ensures.len, c.fill-2.ensures.len)

pub returns-clause-refs : goal.returns-clause-refs
returns-clause-refs c = cc (stored_refs c.args.dump.now c.fill-2.new.self _ _ c.fill-2.ensures.len, c.fill.ensures.len)

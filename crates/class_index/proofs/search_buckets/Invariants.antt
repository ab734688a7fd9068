-- The invariant of `search_buckets`: the search in the buckets that are left gives the result.
use Rattle.std.proofs.Common.{◌≡◌, drop}
use Rattle.table.specs.Rows.{rows_of}
use Rattle.class_index.specs.ClassIndex.{search_in}
use Rattle.class_index.proofs.search_buckets.Given as goal

abbrev pub invariant-loop-entry : goal.invariant-loop-entry
invariant-loop-entry l = search_in (rows_of l.rows) l.address (drop l.entry-index l.entry-items) ≡ search_in (rows_of l.rows) l.address l.entry-items

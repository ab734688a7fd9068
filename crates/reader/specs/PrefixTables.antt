-- Demand 3, first part, as callers see it, for any format: the contents of the callers' tables after the readings of two cuts.
-- A reader must believe `PrefixTables`. Theorem: proofs/PrefixTables.antt.
use Rattle.std.specs.Prelude.{◌≡◌, ℕ, ◌*◌, ◌≤◌, List, length, take}
use Rattle.table.specs.Buffer.{overwrite}
use Rattle.table.specs.Table.{row_width, row_count}
use Rattle.reader.specs.Reader.{Format, Result}
use Rattle.reader.specs.Prefixes.{Final}

-- The callers' tables after two readings: r is the result of the shorter cut, read into the tables rows and refs; r' is that of
-- the longer cut, read into rows' and refs'.
pub record PrefixTables {D : Format} (r r' : Result D) (rows rows' refs refs' : List ℕ) : Type 0 where
  -- The longer reading stores at least as many rows and references.
  pub rows_le : row_count r.rows ≤ row_count r'.rows
  pub refs_le : length r.refs ≤ length r'.refs
  -- The longer's tables begin with all rows and references that the shorter stored.
  pub rows_prefix : take (row_count r.rows * row_width) (overwrite rows' r'.rows) ≡ take (row_count r.rows * row_width) (overwrite rows r.rows)
  pub refs_prefix : take (length r.refs) (overwrite refs' r'.refs) ≡ take (length r.refs) (overwrite refs r.refs)
  -- If the shorter's reply is not 1, 13 or 14, the two results are equal.
  pub same : Final r.reply → r' ≡ r

-- What holds of the next row in the loops over the rows of good tables.
use Rattle.std.proofs.Common.{ℕ, ◌/◌, ◌≤◌, ◌<◌, List, length}
use Rattle.table.specs.Table.{row_count}
use Rattle.table.specs.Rows.{rows_of}
use Rattle.phd.specs.Shapes.{ValidBits}
use Rattle.phd.specs.declared.cache.Cache.{Cache}
use Rattle.phd_check.specs.GoodRows.{TablesGood}
use Rattle.phd_check.specs.WellFormed.{header_bits_good}
use Rattle.phd_check.specs.declared.Tables.{Tables}
use Rattle.phd_write.specs.RowSteps.{BetweenRows, RowStep, row_step}

module _ (t : Tables) (good : TablesGood t.header t.names.now t.refs.now (rows_of t.rows.now)) where
  pub bits_good : ValidBits t.header.bits
  bits_good = header_bits_good _ _ _ _ good.0

  pub next_row : (i index before : ℕ) (c : Cache) → BetweenRows t.header t.names.now t.refs.now t.rows.now i index before → i < row_count t.rows.now
      → RowStep t.header t.names.now t.refs.now t.rows.now i index before c
  next_row i index before c b l = row_step _ _ _ _ i index before c bits_good b l

pub row_below : (rows : List ℕ) (i : ℕ) → i < length rows / 13 → i < row_count rows
unfolding row_count
row_below rows i h = h

pub rows_over : (rows : List ℕ) (i : ℕ) → length rows / 13 ≤ i → row_count rows ≤ i
unfolding row_count
rows_over rows i h = h

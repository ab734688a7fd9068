-- The counts of rows: rows by kind, references, and nulls. The text's trailers print them (docs/FORMAT.md 7.4).
-- A reader must believe the definitions.
use Rattle.std.specs.Prelude.{ℕ, ◌+◌, ◌-◌, List, cond, length}
use Rattle.table.specs.Rows.{is_kind}
use Rattle.table.specs.Sums.{sum}
use Rattle.table.specs.declared.Row.{Row}
use Rattle.phd_counts.specs.declared.Tally.{Tally}

-- ---- counts of one row

-- 1 for a row of kind k, else 0.
abbrev pub kind_count : ℕ → Row → ℕ
kind_count k r = cond (is_kind k r) 1 0

-- The number of references of a row; nulls do not count.
abbrev pub row_ref_count : Row → ℕ
row_ref_count r = r.count

-- The number of nulls of a row: an object array's true length minus its reference count; 0 for any other row. The subtraction
-- stops at 0, but in a good array the count is at most the length (`ExactCounts`).
unfoldable pub nulls_of : Row → ℕ
nulls_of r = cond (is_kind 3 r) (r.len - r.count) 0

-- ---- counts of all rows

-- The number of nulls of all rows. Only object arrays have any.
unfoldable pub nulls : List Row → ℕ
nulls rows = sum nulls_of rows

-- ---- tallies

-- The tally of all rows.
unfoldable pub tally_of : List Row → Tally
tally_of rows = record {
  classes = sum (kind_count 1) rows;
  objects = sum (kind_count 2) rows;
  arrays = sum (kind_count 3) rows;
  primitives = sum (kind_count 4) rows;
  rows = length rows;
  refs = sum row_ref_count rows;
  nulls = nulls rows;
}

-- The tally of no rows.
abbrev pub no_rows : Tally
no_rows = record { classes = 0; objects = 0; arrays = 0; primitives = 0; rows = 0; refs = 0; nulls = 0 }

-- The tally with one more row.
unfoldable pub add_row : Tally → Row → Tally
add_row t r = record {
  classes = t.classes + kind_count 1 r;
  objects = t.objects + kind_count 2 r;
  arrays = t.arrays + kind_count 3 r;
  primitives = t.primitives + kind_count 4 r;
  rows = t.rows + 1;
  refs = t.refs + row_ref_count r;
  nulls = t.nulls + nulls_of r;
}

-- The first row that satisfies a property: the search for it by a test, and the invariant of a loop that searches. Theorems:
-- proofs/SearchLaws.antt, as that the search finds it.
-- A reader must believe `first_from` and the record `IsFirst`.
use Rattle.std.specs.Prelude.{◌≡◌, ℕ, suc, ◌≤◌, ◌<◌, Bool, cond, length, Option, Some, None}
use Rattle.std.proofs.Math.Path.{refl}
use Rattle.std.proofs.Common.{arith}
use mathlib.Core.List.{List, [], ◌∷◌}
use Rattle.table.specs.Table.{row_count}
use Rattle.table.specs.Rows.{zero_row, rows_of, nth, rows_left, rows_left_none}
use Rattle.table.specs.declared.Row.{Row}

-- The first row that passes a test, of rows whose indices begin with i.
unfoldable pub first_from : (Row → Bool) → ℕ → List Row → Option ℕ
first_from test i [] = None
first_from test i (r ∷ rows) = cond (test r) (Some i) (first_from test (suc i) rows)

-- The first of all rows that passes a test.
abbrev pub first_row : (Row → Bool) → List Row → Option ℕ
first_row test rows = first_from test 0 rows

-- The row found; `zero_row` if none was.
unfoldable pub found_row : List Row → Option ℕ → Row
found_row rows (Some i) = nth rows i
found_row rows None = zero_row

-- Row i is in bounds and satisfies P, and no row before it does.
pub record IsFirst (P : Row → Type 0) (rows : List Row) (i : ℕ) : Type 0 where
  pub inside : i < length rows
  pub holds : P (nth rows i)
  pub before : (k : ℕ) → k < i → P (nth rows k) → ⊥

-- No row satisfies P.
abbrev pub NoneSatisfies : (Row → Type 0) → List Row → Type 0
NoneSatisfies P rows = (i : ℕ) → i < length rows → P (nth rows i) → ⊥

-- ---- a search loop over a table

-- The loop invariant: the search over the rows from index i on gives the result of the search over all rows.
abbrev pub SearchInvariant : (Row → Bool) → List ℕ → ℕ → Type 0
SearchInvariant test table i = (i ≤ row_count table) × (first_from test i (rows_left table i) ≡ first_row test (rows_of table))

-- It holds at the start.
pub search_start : (test : Row → Bool) (table : List ℕ) → SearchInvariant test table 0
search_start test table = (omega arith, refl)

module _ (test : Row → Bool) (table : List ℕ) (i : ℕ) where
  -- If no rows are left, the search over all rows finds none.
  pub search_done : SearchInvariant test table i → row_count table ≤ i → None ≡ first_row test (rows_of table)
  unfolding first_from
  search_done s l = rw (rows_left_none table i l) at s.1

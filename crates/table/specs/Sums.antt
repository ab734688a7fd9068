-- Sums over rows, and the invariant of a loop that computes one.
-- A reader must believe `sum`.
use Rattle.std.specs.Prelude.{◌≡◌, ℕ, ◌+◌, ◌≤◌, ◌<◌, List, [], ◌∷◌, ◌++◌}
use Rattle.std.proofs.Common.{arith}
use Rattle.table.specs.Table.{row_count}
use Rattle.table.specs.Rows.{row_at, rows_of, rows_left, rows_left_next, rows_left_none}
use Rattle.table.specs.declared.Row.{Row}

-- The sum of f over rows.
unfoldable pub sum : (Row → ℕ) → List Row → ℕ
sum f [] = 0
sum f (r ∷ rows) = f r + sum f rows

-- Appending a row adds its value to the sum.
pub sum_snoc : (f : Row → ℕ) (rows : List Row) (r : Row) → sum f (rows ++ (r ∷ [])) ≡ sum f rows + f r
unfolding sum
sum_snoc f [] r = omega arith
sum_snoc f (x ∷ rows) r = omega (arith, sum_snoc f rows r)

module _ (f : Row → ℕ) (table : List ℕ) where
  -- The sum over the rows from index i on.
  abbrev pub sum_left : ℕ → ℕ
  sum_left i = sum f (rows_left table i)

  -- It is the value of row i plus the sum over the rows after it.
  pub sum_left_next : (i : ℕ) → i < row_count table → sum_left i ≡ f (row_at table i) + sum_left (i + 1)
  unfolding sum
  sum_left_next i l = rw (rows_left_next table i l)

  -- At the end it is 0.
  pub sum_left_none : (i : ℕ) → row_count table ≤ i → sum_left i ≡ 0
  unfolding sum
  sum_left_none i l = rw (rows_left_none table i l)

  -- The loop invariant: n is the sum over the rows before index i.
  abbrev pub SumInvariant : ℕ → ℕ → Type 0
  SumInvariant i n = n + sum_left i ≡ sum f (rows_of table)

  -- It holds at the start.
  pub sum_start : SumInvariant 0 0
  sum_start = omega arith

  -- Adding the value of row i preserves it.
  pub sum_next : (i n : ℕ) → i < row_count table → SumInvariant i n → SumInvariant (i + 1) (n + f (row_at table i))
  sum_next i n l z = omega (arith, sum_left_next i l)

  -- At the end, n is the sum over all rows.
  pub sum_done : (i n : ℕ) → row_count table ≤ i → SumInvariant i n → n ≡ sum f (rows_of table)
  sum_done i n l z = omega (arith, sum_left_none i l)

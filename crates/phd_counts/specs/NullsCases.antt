-- The nulls of some tables: object arrays with no nulls, some, or only nulls, several of them, and rows of other kinds.
-- It holds by computing. A reader must believe that the numbers are rows (docs/FORMAT.md 4.1).
use Rattle.std.specs.Prelude.{◌≡◌, refl, ℕ, List, [], ◌∷◌, ◌++◌, map, take}
use Rattle.table.specs.Rows.{row_at, rows_from, rows_of}
use Rattle.table.specs.Sums.{sum}
use Rattle.table.specs.Table.{row_width, row_count}
use Rattle.phd_counts.specs.Counts.{nulls_of, nulls}

-- A row that begins with these numbers, in the order of docs/FORMAT.md 4.1; those after them are 0.
abbrev pub row_of : List ℕ → List ℕ
row_of ns = take row_width (ns ++ 0 ∷ 0 ∷ 0 ∷ 0 ∷ 0 ∷ 0 ∷ 0 ∷ 0 ∷ [])

-- A row of a kind, with the index of its first reference, its reference count and its length.
abbrev row : ℕ → ℕ → ℕ → ℕ → List ℕ
row kind first count len = row_of (kind ∷ 0x1000 ∷ 0x2000 ∷ 0 ∷ 0 ∷ first ∷ count ∷ 6 ∷ len ∷ [])

abbrev tables : List (List ℕ)
tables =
    []
    ∷ row 3 0 2 2
    ∷ row 3 0 2 5
    ∷ row 3 0 0 4
    ∷ (row 3 0 2 2 ++ row 3 2 2 5 ++ row 3 4 0 4 ++ row 3 4 1 3)
    ∷ (row 1 0 2 0 ++ row 2 2 3 0 ++ row 4 5 0 9)
    ∷ (row 4 0 0 9 ++ row 3 0 1 2 ++ row 2 1 3 0) ∷ []

-- The numbers of nulls of the tables, in order.
pub nulls_cases_hold : map (λ table. nulls (rows_of table)) tables ≡ 0 ∷ 0 ∷ 3 ∷ 4 ∷ 9 ∷ 0 ∷ 1 ∷ []
unfolding row_at rows_from rows_of row_count sum nulls_of nulls
nulls_cases_hold = refl

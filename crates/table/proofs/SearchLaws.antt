-- The search of specs/Search.antt finds the first row that satisfies a property; the row found, of a list with one row more at its
-- start; and the steps of a search loop.
use Rattle.std.specs.Prelude.{◌≡◌, ◌↔◌, ℕ, zero, suc, ◌+◌, ◌≤◌, ◌<◌, Bool, true, false, cond, length, Option, Some, None}
use Rattle.std.proofs.Math.Path.{refl}
use Rattle.std.proofs.Common.{lt_of_not-le, add-one, arith}
use mathlib.Core.List.{List, [], ◌∷◌}
use Rattle.table.specs.Table.{row_count}
use Rattle.table.specs.Rows.{row_at, rows_of, nth, rows_left, rows_left_next, length_rows, nth_row}
use Rattle.table.specs.declared.Row.{Row}
use Rattle.table.specs.Search.{first_from, first_row, found_row, IsFirst, NoneSatisfies, SearchInvariant}

-- ---- correctness of the search

module _ (P : Row → Type 0) (test : Row → Bool) (is : (r : Row) → (test r ≡ true) ↔ P r) where
  -- A row that fails the test does not satisfy P.
  fails : (r : Row) → test r ≡ false → P r → ⊥
  fails r e p = let t = (is r).1 p in let z : ◌≡◌ {A = ℕ} 0 1 = cc in omega arith

  -- What a search result means, for rows whose indices begin with i.
  abbrev SearchMeans : ℕ → List Row → Option ℕ → Type 0
  SearchMeans i rows (Some k) = (i ≤ k) × ((j : ℕ) → i + j ≡ k → IsFirst P rows j)
  SearchMeans i rows None = NoneSatisfies P rows

  -- If f is the right result for some rows, the search with a row r before them gives the right result.
  search_means_cons : (i : ℕ) (r : Row) (rows : List Row) (b : Bool) → test r ≡ b → (f : Option ℕ) → SearchMeans (suc i) rows f → SearchMeans i (r ∷ rows) (cond b (Some i) f)
  search_means_cons i r rows true e f s = (omega arith, λ j q. at_first j (omega arith))
    where
      at_first : (j : ℕ) → j ≡ 0 → IsFirst P (r ∷ rows) j
      at_first zero q = record { inside = omega arith; holds = (is r).0 e; before = λ k l. absurd (omega arith) }
      at_first (suc j) q = absurd (omega arith)
  search_means_cons i r rows false e (Some k) s = (omega (arith, s.0), at)
    where
      at : (j : ℕ) → i + j ≡ k → IsFirst P (r ∷ rows) j
      at zero q = absurd (omega (arith, s.0))
      at (suc j) q =
          let a = s.1 j (omega arith) in
          record { inside = omega (arith, a.inside); holds = a.holds; before = before a.before }
        where
          before : ((k : ℕ) → k < j → P (nth rows k) → ⊥) → (k : ℕ) → k < suc j → P (nth (r ∷ rows) k) → ⊥
          before b zero l = fails r e
          before b (suc k) l = b k (omega arith)
  search_means_cons i r rows false e None s = none
    where
      none : NoneSatisfies P (r ∷ rows)
      none zero l = fails r e
      none (suc j) l = s j (omega arith)

  -- The search gives the right result.
  search_means : (rows : List Row) (i : ℕ) → SearchMeans i rows (first_from test i rows)
  unfolding first_from
  search_means [] i = λ j l. absurd (omega arith)
  search_means (r ∷ rows) i = search_means_cons i r rows (test r) refl (first_from test (suc i) rows) (search_means rows (suc i))

  -- There is only one first row.
  first_unique : (rows : List Row) (i k : ℕ) → IsFirst P rows i → IsFirst P rows k → i ≡ k
  first_unique rows i k a b =
      let l : k < suc i = lt_of_not-le (λ m. b.before i m a.holds) in
      let m : i < suc k = lt_of_not-le (λ l. a.before k l b.holds) in
      omega arith

  -- A right result is `At i` exactly if row i is the first, and `NotFound` exactly if there is none.
  search_means_iff : (rows : List Row) (f : Option ℕ) → SearchMeans 0 rows f → ((i : ℕ) → (f ≡ Some i) ↔ IsFirst P rows i) × ((f ≡ None) ↔ NoneSatisfies P rows)
  search_means_iff rows (Some k) s =
      let a : IsFirst P rows k = s.1 k (omega arith) in (
        λ i. (λ e. let q : k ≡ i = cc in rw q at a, λ b. let q : k ≡ i = first_unique rows k i a b in rw q),
        (λ e. let z : ◌≡◌ {A = ℕ} 0 1 = cc in absurd (omega arith), λ n. absurd (n k a.inside a.holds)),
      )
  search_means_iff rows None s = (
    λ i. (λ e. let z : ◌≡◌ {A = ℕ} 0 1 = cc in absurd (omega arith), λ b. absurd (s i b.inside b.holds)),
    (λ _. s, λ _. refl),
  )

  -- The search finds row i exactly if row i is the first that satisfies P.
  pub first_row_at : (rows : List Row) (i : ℕ) → (first_row test rows ≡ Some i) ↔ IsFirst P rows i
  first_row_at rows = (search_means_iff rows (first_row test rows) (search_means rows 0)).0

  -- It finds none exactly if no row satisfies P.
  pub first_row_none : (rows : List Row) → (first_row test rows ≡ None) ↔ NoneSatisfies P rows
  first_row_none rows = (search_means_iff rows (first_row test rows) (search_means rows 0)).1

-- The index that was found is in bounds.
pub found_in_bounds : (test : Row → Bool) (rows : List Row) (i : ℕ) → first_row test rows ≡ Some i → i < length rows
found_in_bounds test rows i e = ((first_row_at (λ r. test r ≡ true) test (λ r. (λ t. t, λ t. t)) rows i).0 e).inside

-- If a search over the rows of a table finds index i, then i is in bounds, and the row found is row i of the table.
module _ (test : Row → Bool) (table : List ℕ) (i : ℕ) (e : first_row test (rows_of table) ≡ Some i) where
  pub found_in_table : i < row_count table
  found_in_table = rw (length_rows table) at (found_in_bounds test (rows_of table) i e)

  pub found_row_at : found_row (rows_of table) (first_row test (rows_of table)) ≡ row_at table i
  unfolding found_row
  found_row_at = rw e (nth_row table i found_in_table)

-- ---- the row found, of a list with one row more at its start

-- A result among rows, as a result among the same rows after another one.
abbrev later : Option ℕ → Option ℕ
later (Some i) = Some (suc i)
later None = None

first_from_suc : (test : Row → Bool) (i : ℕ) (rows : List Row) → first_from test (suc i) rows ≡ later (first_from test i rows)
unfolding first_from
first_from_suc test i [] = refl
first_from_suc test i (r ∷ rows) = by (test r) (first_from_suc test (suc i) rows)
  where
    by : (b : Bool) → first_from test (suc (suc i)) rows ≡ later (first_from test (suc i) rows)
        → cond b (Some (suc i)) (first_from test (suc (suc i)) rows) ≡ later (cond b (Some i) (first_from test (suc i) rows))
    by true e = refl
    by false e = e

found_later : (r : Row) (rows : List Row) (f : Option ℕ) → found_row (r ∷ rows) (later f) ≡ found_row rows f
unfolding found_row
found_later r rows (Some i) = refl
found_later r rows None = refl

found_head : (r : Row) (rows : List Row) → found_row (r ∷ rows) (Some 0) ≡ r
unfolding found_row
found_head r rows = refl

-- The first row of a list that passes a test is the first one of the list, if it passes, else the first that passes among the
-- others.
pub found_row_cons : (test : Row → Bool) (r : Row) (rows : List Row) → found_row (r ∷ rows) (first_row test (r ∷ rows)) ≡ cond (test r) r (found_row rows (first_row test rows))
unfolding first_from
found_row_cons test r rows = by (test r)
  where
    by : (b : Bool) → found_row (r ∷ rows) (cond b (Some 0) (first_from test 1 rows)) ≡ cond b r (found_row rows (first_row test rows))
    by true = found_head r rows
    by false = rw (first_from_suc test 0 rows) (found_later r rows (first_row test rows))

-- ---- a search loop over a table

module _ (test : Row → Bool) (table : List ℕ) (i : ℕ) where
  -- The search from index i on finds row i if it passes, else what the search from the next index on finds.
  row_step : i < row_count table → first_from test i (rows_left table i) ≡ cond (test (row_at table i)) (Some i) (first_from test (i + 1) (rows_left table (i + 1)))
  unfolding first_from
  row_step l = rw (rows_left_next table i l, add-one)

  -- If row i passes the test, the search over all rows finds it.
  pub search_found : (r : Row) → SearchInvariant test table i → i < row_count table → r ≡ row_at table i → test r ≡ true → Some i ≡ first_row test (rows_of table)
  search_found r s l e t = cc (row_step l, s.1)

  -- If row i fails the test, the invariant holds for the next index.
  pub search_next : (r : Row) → SearchInvariant test table i → i < row_count table → r ≡ row_at table i → test r ≡ false → SearchInvariant test table (i + 1)
  search_next r s l e t = (omega arith, cc (row_step l, s.1))

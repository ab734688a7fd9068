-- The last class search of a pass over the rows that found a class row (the struct `LastSearch`). It saves a search if the next object
-- has the same class word: the same class word gives the same row.
-- Assumes nothing; no definition of the text uses it.
use Rattle.std.specs.Prelude.{◌≡◌, refl, ℕ, Bool, true, false, cond, List, Option, Some, None}
use Rattle.std.proofs.Common.{sym, ap, ◌∙◌, arith}
use Rattle.table.specs.declared.Row.{Row}
use Rattle.table.specs.RowBytes.{class_at}
use Rattle.classic.specs.ClassicText.{needs_class}
use Rattle.class_index.specs.declared.finder.LastSearch.{LastSearch}

-- The search for a class word that had this result, as the last search: none if it found no row.
abbrev pub search_found : ℕ → Option ℕ → Option LastSearch
search_found class (Some i) = Some (record { class = class; row = i })
search_found class None = None

-- The row that a search found.
abbrev pub found_by : Option LastSearch → Option ℕ
found_by (Some search) = Some search.row
found_by None = None

-- The search for a class word among all rows, as the last search.
abbrev pub search_for : List Row → ℕ → Option LastSearch
search_for rows class = search_found class (class_at rows class)

-- It finds the first class row with this class word.
pub search_for_finds : (rows : List Row) (class : ℕ) → found_by (search_for rows class) ≡ class_at rows class
search_for_finds rows class = by (class_at rows class)
  where
    by : (found : Option ℕ) → found_by (search_found class found) ≡ found
    by (Some i) = refl
    by None = refl

-- The last search before any row.
abbrev pub no_search : Option LastSearch
no_search = None

-- The last search after a row: for an object or object array, the search for its class word; another row leaves it as it was.
unfoldable pub search_after : List Row → Row → Option LastSearch → Option LastSearch
search_after rows r last = cond (needs_class r) (search_for rows r.class) last

-- Its two cases.
module _ (rows : List Row) (r : Row) (last next : Option LastSearch) where
  pub search_after_instance : needs_class r ≡ true → next ≡ search_for rows r.class → next ≡ search_after rows r last
  unfolding search_after
  search_after_instance n e = rw n e

  pub search_after_other : needs_class r ≡ false → next ≡ last → next ≡ search_after rows r last
  unfolding search_after
  search_after_other n e = rw n e

-- If there is a last search, then the search for its class word among all rows finds its row.
pub record LastSearchHolds (rows : List Row) (last : Option LastSearch) : Type 0 where
  pub found : (search : LastSearch) → last ≡ Some search → class_at rows search.class ≡ Some search.row

-- It holds before any row.
pub no_search_holds : (rows : List Row) → LastSearchHolds rows no_search
no_search_holds rows = record { found = λ search e. let z : ◌≡◌ {A = ℕ} 0 1 = cc in absurd (omega arith) }

-- It holds after each search that found a row.
pub found_search_holds : (rows : List Row) (class row : ℕ) → class_at rows class ≡ Some row → LastSearchHolds rows (Some (record { class = class; row = row }))
found_search_holds rows class row f = record { found = λ search e. let c : class ≡ search.class = cc in let r : row ≡ search.row = cc in rw (← c, ← r) f }

-- It holds after any search among all rows.
pub search_for_holds : (rows : List Row) (class : ℕ) → LastSearchHolds rows (search_for rows class)
search_for_holds rows class = by (class_at rows class) refl
  where
    by : (found : Option ℕ) → class_at rows class ≡ found → LastSearchHolds rows (search_found class found)
    by (Some i) e = found_search_holds rows class i e
    by None e = no_search_holds rows

-- It holds after each row.
pub search_after_holds : (rows : List Row) (r : Row) (last next : Option LastSearch) → LastSearchHolds rows last → next ≡ search_after rows r last → LastSearchHolds rows next
unfolding search_after
search_after_holds rows r last next h e = rw e (by (needs_class r))
  where
    by : (b : Bool) → LastSearchHolds rows (cond b (search_for rows r.class) last)
    by true = search_for_holds rows r.class
    by false = h

-- The same class word gives the same row: a last search for a class word is the search for it among all rows.
pub same_class_same_row : (rows : List Row) (last : Option LastSearch) (search : LastSearch) (class : ℕ) → LastSearchHolds rows last → last ≡ Some search → search.class ≡ class → last ≡ search_for rows class
same_class_same_row rows last search class h e f = rw (e, ← f, h.found search e)

-- Its row is the class row of the class word.
pub last_row_is_class_row : (rows : List Row) (last : Option LastSearch) (search : LastSearch) (class : ℕ) → LastSearchHolds rows last → last ≡ Some search → search.class ≡ class → Some search.row ≡ class_at rows class
last_row_is_class_row rows last search class h e f = rw (← f) (sym (h.found search e))

-- The result of the class search that a row's lines need: of an object or object array, that for its class word; of another row
-- nothing.
pub record ClassFound (rows : List Row) (r : Row) (found : Option ℕ) : Type 0 where
  pub is : needs_class r ≡ true → found ≡ class_at rows r.class

-- The last search after a row has it.
pub search_after_found : (rows : List Row) (r : Row) (last next : Option LastSearch) → next ≡ search_after rows r last → ClassFound rows r (found_by next)
unfolding search_after
search_after_found rows r last next e = record { is = λ n. ap found_by (rw n at e) ∙ search_for_finds rows r.class }

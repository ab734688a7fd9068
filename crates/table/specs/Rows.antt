-- The rows of a table, each by its numbers, and the records that they represent (docs/FORMAT.md 4).
-- A reader must believe `row_at` and `rows_of`, and that two records are the same by docs/FORMAT.md 4.2 exactly if their `Rec`
-- are equal.
use Rattle.std.specs.Prelude.{◌≡◌, Bool, eqb, length, get_or, take, drop}
use Rattle.std.proofs.Math.Path.{refl, ap}
use Rattle.std.proofs.Common.{sym, ◌∙◌, add-one, get_or-drop, take_all}
use Prim.Native.Nat.{ℕ, zero, suc, ◌+◌, ◌-◌, ◌%◌, ◌≤◌, ◌<◌}
use Rattle.std.proofs.Math.Nat.{zero-add, add-zero, sub-zero}
use native.Mathlib.Omega.{arith}
use mathlib.Core.List.{List, [], ◌∷◌, ◌++◌}
use Rattle.std.proofs.Math.ListN.{length-append}
use Rattle.table.specs.Table.{row_width, offset_number, row_count, number, row_count_snoc, number_append, number_last, number_cons}
use Rattle.table.specs.declared.Row.{Row}

-- ---- one row

-- Row i, counted from 0.
unfoldable pub row_at : List ℕ → ℕ → Row
row_at rows i =
    let n : ℕ → ℕ = number rows i in
    record {
      kind = n 0;
      address = n 1;
      class = n 2;
      hashkind = n 3;
      hash = n 4;
      first = n 5;
      count = n 6;
      size = n 7;
      len = n 8;
      place = n 9;
      namelen = n 10;
      prim = n 11;
    }

-- The row whose numbers are all 0.
abbrev pub zero_row : Row
zero_row = record {
  kind = 0;
  address = 0;
  class = 0;
  hashkind = 0;
  hash = 0;
  first = 0;
  count = 0;
  size = 0;
  len = 0;
  place = 0;
  namelen = 0;
  prim = 0;
}

-- Whether a row has kind k: 1 class, 2 object, 3 object array, 4 primitive array.
abbrev pub is_kind : ℕ → Row → Bool
is_kind k r = eqb r.kind k

-- A row's references, from the reference table.
unfoldable pub refs_of : List ℕ → Row → List ℕ
refs_of refs r = take r.count (drop r.first refs)

-- A row's name, from the dump or from the name bytes passed in.
unfoldable pub name_of : List ℕ → Row → List ℕ
name_of names r = take r.namelen (drop r.place names)

-- ---- the list of rows

-- The n rows from index i on.
unfoldable pub rows_from : List ℕ → ℕ → ℕ → List Row
rows_from table i zero = []
rows_from table i (suc n) = row_at table i ∷ rows_from table (suc i) n

-- All whole rows.
unfoldable pub rows_of : List ℕ → List Row
rows_of table = rows_from table 0 (row_count table)

-- Row i of a list; `zero_row` if there is none.
abbrev pub nth : List Row → ℕ → Row
nth rows i = get_or rows i zero_row

-- Every row of a list satisfies P.
abbrev pub All : (Row → Type 0) → List Row → Type 0
All P [] = Unit {0}
All P (r ∷ rows) = P r × All P rows

-- ---- records

-- A row with 0 for the place of its name.
unfoldable pub without_place : Row → Row
without_place r = record {
  kind = r.kind;
  address = r.address;
  class = r.class;
  hashkind = r.hashkind;
  hash = r.hash;
  first = r.first;
  count = r.count;
  size = r.size;
  len = r.len;
  place = 0;
  namelen = r.namelen;
  prim = r.prim;
}

-- A record (the scope paper's term), as tables represent it: all numbers of its row except the place of its name and the offset,
-- its references as a list, and its name as bytes.
pub record Rec : Type 0 where
  pub row : Row
  pub refs : List ℕ
  pub name : List ℕ

-- The record of a row.
unfoldable pub rec_of : List ℕ → List ℕ → Row → Rec
rec_of names refs r = record { row = without_place r; refs = refs_of refs r; name = name_of names r }

-- The records of a list of rows.
unfoldable pub recs : List ℕ → List ℕ → List Row → List Rec
recs names refs [] = []
recs names refs (r ∷ rows) = rec_of names refs r ∷ recs names refs rows

-- The records of the first n rows of a table.
abbrev pub first_recs : ℕ → (names refs table : List ℕ) → List Rec
first_recs n names refs table = recs names refs (take n (rows_of table))

-- The thirteen numbers of a record's row, given the place of its name and the offset of the record.
unfoldable pub numbers : ℕ → ℕ → Rec → List ℕ
numbers place offset r =
    let n = r.row in
    n.kind ∷ n.address ∷ n.class ∷ n.hashkind ∷ n.hash ∷ n.first ∷ n.count ∷ n.size ∷ n.len ∷ place ∷ n.namelen ∷ n.prim
    ∷ offset ∷ []

-- ---- equality of rows

-- Rows whose numbers agree are equal, whatever their offsets.
pub row_ext : (rows rows' : List ℕ) (i i' : ℕ) → ((k : ℕ) → k < row_width → (k ≡ offset_number → ⊥) → number rows i k ≡ number rows' i' k) → row_at rows i ≡ row_at rows' i'
unfolding row_at
row_ext rows rows' i i' e =
    let n : (k : ℕ) → k < offset_number → number rows i k ≡ number rows' i' k = λ k b. e k (omega arith) (λ z. omega arith) in
    λ j. record {
      kind = n 0 (omega arith) j;
      address = n 1 (omega arith) j;
      class = n 2 (omega arith) j;
      hashkind = n 3 (omega arith) j;
      hash = n 4 (omega arith) j;
      first = n 5 (omega arith) j;
      count = n 6 (omega arith) j;
      size = n 7 (omega arith) j;
      len = n 8 (omega arith) j;
      place = n 9 (omega arith) j;
      namelen = n 10 (omega arith) j;
      prim = n 11 (omega arith) j;
    }

-- ---- the list of rows in a loop over the table

length_from : (table : List ℕ) (n i : ℕ) → length (rows_from table i n) ≡ n
unfolding rows_from
length_from table zero i = refl
length_from table (suc n) i = ap suc (length_from table n (suc i))

-- The list has as many rows as the table.
pub length_rows : (table : List ℕ) → length (rows_of table) ≡ row_count table
unfolding rows_of
length_rows table = length_from table (row_count table) 0

-- The rows from index i on.
abbrev pub rows_left : List ℕ → ℕ → List Row
rows_left table i = drop i (rows_of table)

drop_from : (table : List ℕ) (n i k : ℕ) → drop i (rows_from table k n) ≡ rows_from table (k + i) (n - i)
unfolding rows_from
drop_from table n zero k = rw (add-zero, sub-zero)
drop_from table zero (suc i) k = let e : 0 - suc i ≡ 0 = omega arith in rw e
drop_from table (suc n) (suc i) k =
    let e : k + suc i ≡ suc k + i = omega arith in
    let f : suc n - suc i ≡ n - i = omega arith in
    rw (e, f) (drop_from table n i (suc k))

rows_left_from : (table : List ℕ) (i : ℕ) → rows_left table i ≡ rows_from table i (row_count table - i)
unfolding rows_of
rows_left_from table i = rw zero-add at (drop_from table (row_count table) i 0)

module _ (table : List ℕ) (i : ℕ) where
  -- If i is in bounds, they are row i and the rows after it.
  pub rows_left_next : i < row_count table → rows_left table i ≡ row_at table i ∷ rows_left table (i + 1)
  unfolding rows_from
  rows_left_next l =
      let e : row_count table - i ≡ suc (row_count table - (i + 1)) = omega arith in
      rw (rows_left_from table i, rows_left_from table (i + 1), e, add-one)

  -- At the end there are none.
  pub rows_left_none : row_count table ≤ i → rows_left table i ≡ []
  unfolding rows_from
  rows_left_none l = let e : row_count table - i ≡ 0 = omega arith in rw (rows_left_from table i, e)

  -- Row i of the list is row i of the table.
  pub nth_row : i < row_count table → nth (rows_of table) i ≡ row_at table i
  nth_row l = rw add-zero at (sym (get_or-drop i (rows_of table) 0 zero_row)) ∙ rw (rows_left_next l)

-- A property of every row holds for row i.
module _ (P : Row → Type 0) where
  pub all_nth : (rows : List Row) (i : ℕ) → All P rows → i < length rows → P (nth rows i)
  all_nth [] i a l = absurd (omega arith)
  all_nth (r ∷ rows) zero a l = a.0
  all_nth (r ∷ rows) (suc i) a l = all_nth rows i a.1 (omega arith)

  pub all_at : (table : List ℕ) (i : ℕ) → All P (rows_of table) → i < row_count table → P (row_at table i)
  all_at table i a l = let m : i < length (rows_of table) = rw (length_rows table) l in rw (nth_row table i l) at (all_nth (rows_of table) i a m)

-- A row prepended to a table is the first of its list.
module _ (row table : List ℕ) (l : length row ≡ row_width) where
  rows_from_cons : (n i : ℕ) → rows_from (row ++ table) (suc i) n ≡ rows_from table i n
  unfolding rows_from
  rows_from_cons zero i = refl
  rows_from_cons (suc n) i = rw (row_ext (row ++ table) table (suc i) i (λ k _ _. number_cons row table l i k), rows_from_cons n (suc i))

  pub rows_of_cons : rows_of (row ++ table) ≡ row_at (row ++ table) 0 ∷ rows_of table
  unfolding rows_of rows_from row_count
  rows_of_cons =
      let c : row_count (row ++ table) ≡ suc (row_count table) = simp length-append (omega arith) in
      rw (c, rows_from_cons (row_count table) 0)

-- A row appended to a table of whole rows is the last of its list.
module _ (table row : List ℕ) (whole : length table % row_width ≡ 0) (l : length row ≡ row_width) where
  rows_from_append : (n i : ℕ) → i + n ≤ row_count table → rows_from (table ++ row) i n ≡ rows_from table i n
  unfolding rows_from
  rows_from_append zero i b = refl
  rows_from_append (suc n) i b =
      rw (row_ext (table ++ row) table i i (λ k m _. number_append table row whole l i k (omega arith) m), rows_from_append n (suc i) (omega arith))

  rows_from_snoc : (t : List ℕ) (n i : ℕ) → rows_from t i (suc n) ≡ rows_from t i n ++ (row_at t (i + n) ∷ [])
  unfolding rows_from
  rows_from_snoc t zero i = rw add-zero
  rows_from_snoc t (suc n) i = let e : i + suc n ≡ suc i + n = omega arith in ap (λ (x : List Row). row_at t i ∷ x) (rw e (rows_from_snoc t n (suc i)))

  pub rows_of_snoc : rows_of (table ++ row) ≡ rows_of table ++ (row_at row 0 ∷ [])
  unfolding rows_of
  rows_of_snoc =
      rw (
        row_count_snoc table row whole l,
        rows_from_snoc (table ++ row) (row_count table) 0,
        rows_from_append (row_count table) 0 (omega arith),
        zero-add,
        row_ext (table ++ row) row (row_count table) 0 (λ k _ _. rw zero-add (number_last table row whole l k)),
      )

-- The records of the first `row_count` rows are the records of all rows.
pub first_recs_all : (names refs table : List ℕ) → first_recs (row_count table) names refs table ≡ recs names refs (rows_of table)
first_recs_all names refs table = rw (take_all (row_count table) (rows_of table) (omega (arith, length_rows table)))

-- The first row of a table that begins with the numbers of a record is the record's row, apart from the place of its name.
pub row_at_numbers : (place offset : ℕ) (r : Rec) (table : List ℕ) → r.row.place ≡ 0 → without_place (row_at (numbers place offset r ++ table) 0) ≡ r.row
unfolding without_place row_at numbers
row_at_numbers place offset r table z = λ j. record {
  kind = r.row.kind;
  address = r.row.address;
  class = r.row.class;
  hashkind = r.row.hashkind;
  hash = r.row.hash;
  first = r.row.first;
  count = r.row.count;
  size = r.row.size;
  len = r.row.len;
  place = sym z j;
  namelen = r.row.namelen;
  prim = r.row.prim;
}

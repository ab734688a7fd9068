-- A table is a slice of numbers, thirteen to a row (docs/FORMAT.md 4.1): how many rows it has, the numbers of each, and what
-- appending or prepending a row changes.
-- A reader must believe `row_width`, `offset_number`, `row_count`, `row_slice` and `number`.
use Rattle.std.specs.Prelude.{◌≡◌, ℕ, suc, ◌+◌, ◌*◌, ◌/◌, ◌%◌, ◌<◌, ◌⊎◌, List, ◌++◌, length, get_or, take, drop}
use Rattle.std.proofs.Common.{sym, ◌∙◌, eq-or-lt_of_le, inl, inr, take_all, drop_at, get_or-append-add, get_or-take, get_or-drop}
use native.Mathlib.Omega.{arith}
use Rattle.std.proofs.Math.ListN.{length-append, length-drop, get_or-append}
use Rattle.std.proofs.Math.Seq.{take-append-le}
use Rattle.std.proofs.lemmas.List.{drop-append-le}

-- How many numbers a row has.
abbrev pub row_width : ℕ
row_width = 13

-- Which of them, counted from 0, is the offset of the row's record in the dump.
abbrev pub offset_number : ℕ
offset_number = 12

-- How many whole rows a table has. Numbers at its end that are too few for a row are not counted.
unfoldable pub row_count : List ℕ → ℕ
row_count rows = length rows / row_width

-- The numbers of row i, counted from 0.
abbrev pub row_slice : List ℕ → ℕ → List ℕ
row_slice rows i = take row_width (drop (i * row_width) rows)

-- Number k of row i.
abbrev pub number : List ℕ → ℕ → ℕ → ℕ
number rows i k = get_or rows (i * row_width + k) 0

-- Number k of a row is number k of its slice.
pub number_row_slice : (rows : List ℕ) (i k : ℕ) → k < row_width → number rows i k ≡ get_or (row_slice rows i) k 0
number_row_slice rows i k l = sym (get_or-take row_width (drop (i * row_width) rows) k 0 l ∙ get_or-drop (i * row_width) rows k 0)

-- A row r appended to a table of whole rows.
module _ (rows r : List ℕ) (whole : length rows % row_width ≡ 0) (w : length r ≡ row_width) where
  -- The table still has whole rows only.
  pub whole_append : length (rows ++ r) % row_width ≡ 0
  whole_append = simp length-append (omega arith)

  -- It has one row more.
  pub row_count_snoc : row_count (rows ++ r) ≡ suc (row_count rows)
  unfolding row_count
  row_count_snoc = simp length-append (omega arith)

  -- Before, its length was the row count times the width of a row.
  pub whole_length : length rows ≡ row_count rows * row_width
  unfolding row_count
  whole_length = omega arith

  -- The rows before r are unchanged.
  pub row_slice_append : (i : ℕ) → i < row_count rows → row_slice (rows ++ r) i ≡ row_slice rows i
  unfolding row_count
  row_slice_append i l =
      rw (drop-append-le (i * row_width) rows r (omega arith), take-append-le row_width (drop (i * row_width) rows) r (simp length-drop (omega arith)))

  pub number_append : (i k : ℕ) → i < row_count rows → k < row_width → number (rows ++ r) i k ≡ number rows i k
  unfolding row_count
  number_append i k l b = rw (get_or-append rows r 0 (i * row_width + k) (omega arith))

  -- r is the last row.
  pub row_slice_last : row_slice (rows ++ r) (row_count rows) ≡ r
  row_slice_last = rw (drop_at rows r (row_count rows * row_width) whole_length) (take_all row_width r (omega arith))

  pub number_last : (k : ℕ) → number (rows ++ r) (row_count rows) k ≡ get_or r k 0
  number_last k = rw (← whole_length) (get_or-append-add rows r k 0)

  -- A property that holds for each row before r, and for r, holds for every row.
  pub every_row_snoc : (P : ℕ → Type 0) → ((i : ℕ) → i < row_count rows → P i) → P (row_count rows) → (i : ℕ) → i < row_count (rows ++ r) → P i
  every_row_snoc P each last i l = by i (eq-or-lt_of_le (omega (arith, row_count_snoc)))
    where
      by : (j : ℕ) → (j ≡ row_count rows) ⊎ (j < row_count rows) → P j
      by j (inl e) = rw e last
      by j (inr b) = each j b

-- Prepending a row shifts the index of every other row by one.
pub number_cons : (row rows : List ℕ) → length row ≡ row_width → (i k : ℕ) → number (row ++ rows) (suc i) k ≡ number rows i k
number_cons row rows l i k =
    let e : suc i * row_width + k ≡ length row + (i * row_width + k) = omega arith in
    rw (e, get_or-append-add row rows (i * row_width + k) 0)

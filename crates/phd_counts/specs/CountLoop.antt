-- The loop invariant of counting: each count so far, plus what the remaining rows add to it, is the sum over all rows. It holds
-- at the start, each row preserves it, and at the end it gives the tally of all rows.
-- Assumes nothing.
use Rattle.std.specs.Prelude.{◌≡◌, ◌≢◌, refl, ℕ, ◌+◌, ◌^◌, ◌≤◌, ◌<◌, Bool, true, false, cond, eqb, List, [], ◌∷◌}
use Rattle.std.proofs.Common.{arith, ne_eqb, add-zero}
use Rattle.std.proofs.Math.ListN.{length}
use Rattle.decode.specs.Values.{bit_le_one}
use Rattle.table.specs.Table.{row_count}
use Rattle.table.specs.Rows.{row_at, is_kind, rows_of, length_rows}
use Rattle.table.specs.Sums.{sum, sum_left_next, SumInvariant, sum_start, sum_next, sum_done}
use Rattle.table.specs.declared.Row.{Row}
use Rattle.phd_counts.specs.Counts.{kind_count, row_ref_count, nulls_of, nulls, no_rows, tally_of, add_row}
use Rattle.phd_counts.specs.declared.Tally.{Tally}

-- Bounds on the numbers of rows, references and nulls, far below what 64 bits hold.
pub record CountBounds (rows : List Row) : Type 0 where
  pub rows_bound : length rows ≤ 2 ^ 30
  pub refs_bound : sum row_ref_count rows ≤ 2 ^ 30
  pub nulls_bound : nulls rows ≤ 2 ^ 61

-- Adding the row r to the tally t overflows none of its 64-bit counts.
pub record NoOverflow (t : Tally) (r : Row) : Type 0 where
  pub classes : t.classes < 2 ^ 62
  pub objects : t.objects < 2 ^ 62
  pub arrays : t.arrays < 2 ^ 62
  pub primitives : t.primitives < 2 ^ 62
  pub rows : t.rows < 2 ^ 62
  pub refs : t.refs < 2 ^ 62
  pub count : r.count < 2 ^ 62
  pub nulls : t.nulls < 2 ^ 62
  pub unlisted : nulls_of r < 2 ^ 62

-- No kind has more rows than there are.
pub sum_le_length : (k : ℕ) (rows : List Row) → sum (kind_count k) rows ≤ length rows
unfolding sum
sum_le_length k [] = omega arith
sum_le_length k (r ∷ rows) = omega (arith, bit_le_one (is_kind k r), sum_le_length k rows)

-- ---- adding a row

-- The tally with one more row, of kind k: the count of that kind grows by one.
module _ (t : Tally) (r : Row) {n : ℕ} where
  pub add_row_at : (k : ℕ) → r.kind ≡ k → n ≡ nulls_of r
      → record {
        classes = cond (eqb k 1) (t.classes + 1) t.classes;
        objects = cond (eqb k 2) (t.objects + 1) t.objects;
        arrays = cond (eqb k 3) (t.arrays + 1) t.arrays;
        primitives = cond (eqb k 4) (t.primitives + 1) t.primitives;
        rows = t.rows + 1;
        refs = t.refs + r.count;
        nulls = t.nulls + n;
      } ≡ add_row t r
  unfolding add_row
  add_row_at k e w = rw (← e, grows t.classes (eqb r.kind 1), grows t.objects (eqb r.kind 2), grows t.arrays (eqb r.kind 3), grows t.primitives (eqb r.kind 4), w)
    where
      grows : (m : ℕ) (b : Bool) → cond b (m + 1) m ≡ m + cond b 1 0
      grows m true = refl
      grows m false = omega arith

  -- Of no kind: none of these counts grows.
  pub add_row_other : (r.kind ≢ 1) × (r.kind ≢ 2) × (r.kind ≢ 3) × (r.kind ≢ 4) → n ≡ nulls_of r
      → record { classes = t.classes; objects = t.objects; arrays = t.arrays; primitives = t.primitives; rows = t.rows + 1; refs = t.refs + r.count; nulls = t.nulls + n } ≡ add_row t r
  unfolding add_row
  add_row_other o w = rw (ne_eqb _ 1 o.0, ne_eqb _ 2 o.1, ne_eqb _ 3 o.2, ne_eqb _ 4 o.3, w) (simp add-zero)

-- ---- the loop invariant

-- t is the tally of the rows before row i.
pub record CountedBefore (rows : List ℕ) (i : ℕ) (t : Tally) : Type 0 where
  pub classes : SumInvariant (kind_count 1) rows i t.classes
  pub objects : SumInvariant (kind_count 2) rows i t.objects
  pub arrays : SumInvariant (kind_count 3) rows i t.arrays
  pub primitives : SumInvariant (kind_count 4) rows i t.primitives
  pub rows_counted : t.rows ≡ i
  pub at_most : i ≤ row_count rows
  pub refs : SumInvariant row_ref_count rows i t.refs
  pub nulls : SumInvariant nulls_of rows i t.nulls

-- The tally of no rows is that of the rows before row 0.
pub counted_before_first : (rows : List ℕ) → CountedBefore rows 0 no_rows
counted_before_first rows = record {
  classes = sum_start (kind_count 1) rows;
  objects = sum_start (kind_count 2) rows;
  arrays = sum_start (kind_count 3) rows;
  primitives = sum_start (kind_count 4) rows;
  rows_counted = refl;
  at_most = omega arith;
  refs = sum_start row_ref_count rows;
  nulls = sum_start nulls_of rows;
}

module _ (rows : List ℕ) (i : ℕ) (t : Tally) (z : CountedBefore rows i t) where
  -- Adding row i gives the tally of the rows before row i + 1.
  pub counted_before_next : (r : Row) (t' : Tally) → i < row_count rows → r ≡ row_at rows i → t' ≡ add_row t r → CountedBefore rows (i + 1) t'
  unfolding add_row
  counted_before_next r t' l e f = rw (f, e) (record {
    classes = sum_next (kind_count 1) rows i t.classes l z.classes;
    objects = sum_next (kind_count 2) rows i t.objects l z.objects;
    arrays = sum_next (kind_count 3) rows i t.arrays l z.arrays;
    primitives = sum_next (kind_count 4) rows i t.primitives l z.primitives;
    rows_counted = omega arith;
    at_most = omega arith;
    refs = sum_next row_ref_count rows i t.refs l z.refs;
    nulls = sum_next nulls_of rows i t.nulls l z.nulls;
  })

  -- Adding row i overflows no count.
  pub counted_no_overflow : (r : Row) → i < row_count rows → r ≡ row_at rows i → CountBounds (rows_of rows) → NoOverflow t r
  unfolding nulls
  counted_no_overflow r l e few =
      let n = length_rows rows in
      let c = sum_left_next row_ref_count rows i l in
      let u = sum_left_next nulls_of rows i l in
      rw e (record {
        classes = omega (arith, sum_le_length 1 (rows_of rows));
        objects = omega (arith, sum_le_length 2 (rows_of rows));
        arrays = omega (arith, sum_le_length 3 (rows_of rows));
        primitives = omega (arith, sum_le_length 4 (rows_of rows));
        rows = omega arith;
        refs = omega arith;
        count = omega arith;
        nulls = omega arith;
        unlisted = omega arith;
      })

  -- After the last row, t is the tally of all rows.
  pub counted_before_end : row_count rows ≤ i → t ≡ tally_of (rows_of rows)
  unfolding tally_of nulls
  counted_before_end l =
      let r : t.rows ≡ length (rows_of rows) = omega (arith, length_rows rows) in
      rw (
        ← (sum_done (kind_count 1) rows i t.classes l z.classes),
        ← (sum_done (kind_count 2) rows i t.objects l z.objects),
        ← (sum_done (kind_count 3) rows i t.arrays l z.arrays),
        ← (sum_done (kind_count 4) rows i t.primitives l z.primitives),
        ← (sum_done row_ref_count rows i t.refs l z.refs),
        ← (sum_done nulls_of rows i t.nulls l z.nulls),
        ← r,
      )

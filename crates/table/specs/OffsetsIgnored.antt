-- Tables that differ only in the offsets of their rows, and in the numbers after the last whole row, have the same rows. So every
-- function of the rows ignores the offsets.
-- A reader must believe `EqualExceptOffsets`.
use Rattle.std.specs.Prelude.{◌≡◌, List}
use Rattle.std.proofs.Math.Path.{refl}
use Prim.Native.Nat.{ℕ, zero, suc, ◌+◌, ◌≤◌, ◌<◌}
use Rattle.std.proofs.Common.{arith}
use Rattle.table.specs.Table.{row_width, offset_number, row_count, number}
use Rattle.table.specs.Rows.{row_ext, rows_from, rows_of}

-- Two tables are equal, except for the offsets of their rows and the numbers after the last whole row.
pub record EqualExceptOffsets (rows rows' : List ℕ) : Type 0 where
  -- They have equally many whole rows.
  pub count : row_count rows ≡ row_count rows'
  -- Every number of a row except its offset is the same.
  pub numbers : (i k : ℕ) → i < row_count rows → k < row_width → (k ≡ offset_number → ⊥)
      → number rows i k ≡ number rows' i k

module _ {rows rows' : List ℕ} (a : EqualExceptOffsets rows rows') where
  rows_from_equal : (n i : ℕ) → i + n ≤ row_count rows → rows_from rows i n ≡ rows_from rows' i n
  unfolding rows_from
  rows_from_equal zero i l = refl
  rows_from_equal (suc n) i l = rw (row_ext rows rows' i i (λ k. a.numbers i k (omega arith)), rows_from_equal n (suc i) (omega arith))

  -- They have the same rows.
  pub rows_of_equal : rows_of rows ≡ rows_of rows'
  unfolding rows_of
  rows_of_equal = rw (← a.count) (rows_from_equal (row_count rows) 0 (omega arith))

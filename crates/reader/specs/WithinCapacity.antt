-- Tables within their capacity, with whole rows only, and the replies of every format. Theorems: proofs/WithinCapacity.antt.
-- Assumes nothing.
use Rattle.std.specs.Prelude.{◌≡◌, ℕ, ◌%◌, ◌≤◌, List, ◌++◌, length}
use Rattle.std.proofs.Common.{length-append, arith}
use Rattle.decode.specs.Layout.{Layout, stops, run, reply_of}
use Rattle.decode.specs.Values.{Refuses}
use Rattle.decode.specs.declared.Stop.{Stop}
use Rattle.decode.specs.declared.Stop.TheVariants.{Cut, Refused}
use Rattle.table.specs.Table.{row_width}
use Rattle.reader.specs.Reader.{Capacity}
use Rattle.reader.specs.Steps.{ValidRow, empty_row, full_row}

-- The tables are within the capacity A, and have whole rows only.
pub record WithinCapacity (A : Capacity) (rows refs : List ℕ) : Type 0 where
  pub rows_fit : length rows ≤ A.rows
  pub refs_fit : length refs ≤ A.refs
  pub whole_rows : length rows % row_width ≡ 0

-- Whole rows stay whole when a valid row is appended.
pub whole_rows_append : {at : ℕ} (rows r : List ℕ) → length rows % row_width ≡ 0 → ValidRow at r → length (rows ++ r) % row_width ≡ 0
whole_rows_append rows r w (empty_row e) = simp length-append (omega arith)
whole_rows_append rows r w (full_row e _) = simp length-append (omega arith)

-- ---- replies

-- P holds for the replies that a reading gives in every format: 0 (complete), 1 (cut), 2 (over the size limit), 13 and 14 (no
-- capacity for a row or for references).
pub record OwnReplies (P : ℕ → Type 0) : Type 0 where
  pub done : P 0
  pub cut : P 1
  pub long : P 2
  pub no_row : P 13
  pub no_refs : P 14

-- P holds for the reply of a layout that stops if it holds for 1 and for each reply that the layout refuses with.
pub stop_reply : {A : Type 0} {P : ℕ → Type 0} (l : Layout A) → P 1 → Refuses P l → (s : List ℕ) (at : ℕ) (w : Stop) → run l s at ≡ stops w → P (reply_of w)
unfolding reply_of
stop_reply l cut g s at (Cut n) e = cut
stop_reply l cut g s at (Refused r) e = g.each s at r e

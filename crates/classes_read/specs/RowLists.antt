-- The rows of the first part of a table are the first of its rows.
-- Assumes nothing.
use Rattle.std.specs.Prelude.{◌≡◌, ℕ, ◌+◌, ◌*◌, ◌≤◌, ◌<◌, List, ◌++◌, length, take, drop}
use Rattle.std.proofs.Common.{sym, ap, ◌∙◌, take-append-drop, length-append, get_or-take, length-take-le, ext_get_or}
use native.Mathlib.Omega.{arith}
use Rattle.std.proofs.Math.Seq.{take-append_seam}
use Rattle.table.specs.Table.{row_width, row_count}
use Rattle.table.specs.Rows.{row_at, zero_row, rows_of, length_rows, nth_row, row_ext}
use Rattle.table.specs.declared.Row.{Row}

module _ (t : List ℕ) (n : ℕ) (l : n ≤ row_count t) where
  in_table : n * row_width ≤ length t
  unfolding row_count
  in_table = omega arith

  count_taken : row_count (take (n * row_width) t) ≡ n
  unfolding row_count
  count_taken = rw (length-take-le (n * row_width) t in_table) (omega arith)

  row_taken : (i : ℕ) → i < n → row_at (take (n * row_width) t) i ≡ row_at t i
  row_taken i m = row_ext (take (n * row_width) t) t i i (λ k b _. get_or-take (n * row_width) t (i * row_width + k) 0 (omega arith))

  pub rows_of_take : rows_of (take (n * row_width) t) ≡ take n (rows_of t)
  rows_of_take =
      ext_get_or zero_row (rows_of (take (n * row_width) t)) (take n (rows_of t))
      (rw (length_rows (take (n * row_width) t), count_taken, length-take-le n (rows_of t) (rw (length_rows t) l)))
      (λ i m.
      let k : i < n = rw (length_rows (take (n * row_width) t), count_taken) at m in
      nth_row (take (n * row_width) t) i (rw count_taken k) ∙ (row_taken i k ∙ (sym (nth_row t i (omega arith)) ∙ sym (get_or-take n (rows_of t) i zero_row k))))

-- The rows of a table that begins with whole rows a.
pub rows_of_prefix : (a b : List ℕ) (n : ℕ) → length a ≡ n * row_width → rows_of (a ++ b) ≡ rows_of a ++ drop n (rows_of (a ++ b))
unfolding row_count
rows_of_prefix a b n e =
    let l : n ≤ row_count (a ++ b) = simp length-append (omega arith) in
    let t : take (n * row_width) (a ++ b) ≡ a = rw (← e) (take-append_seam a b) in
    sym (take-append-drop n (rows_of (a ++ b))) ∙ ap (λ (x : List Row). x ++ drop n (rows_of (a ++ b))) (sym (rows_of_take (a ++ b) n l) ∙ ap rows_of t)

-- A row is in the bounds of its table, its numbers are those of its slice, and storing them one by one stores the row.
-- Assumes nothing.
use mathlib.Core.Path.{◌≡◌, ap, ◌∙◌}
use mathlib.Core.List.{List}
use Prim.Native.Nat.{ℕ, suc, ◌+◌, ◌-◌, ◌*◌, ◌≤◌, ◌<◌}
use native.Mathlib.Omega.{arith}
use lib.ListN.{length, get_or, take, drop, set}
use lib.Seq.{sets, get_or-take, get_or-drop, drop-cons}
use Rattle.table.specs.Table.{row_width, row_count}

-- A row is in the bounds of its table.
pub row_in_bounds : (rows : List ℕ) (i : ℕ) → i < row_count rows → i * row_width + row_width ≤ length rows
unfolding row_count
row_in_bounds rows i h = omega arith

-- Number k of the row slice at offset `at` is number `at + k` of the table.
pub number_at : (rows : List ℕ) (at k : ℕ) → k < row_width → get_or (take (at + row_width - at) (drop at rows)) k 0 ≡ get_or rows (at + k) 0
number_at rows at k l =
    let m : k < at + row_width - at = omega arith in
    rw (get_or-take, get_or-drop)

-- Storing the numbers of a row from i on is storing number i and then those after it.
pub sets_next : (table row : List ℕ) (at i : ℕ) → i < length row
    → sets table (at + i) (drop i row) ≡ sets (set table (at + i) (get_or row i 0)) (at + (i + 1)) (drop (i + 1) row)
sets_next table row at i h =
    let e : suc (at + i) ≡ at + (i + 1) = omega arith in
    let f : suc i ≡ i + 1 = omega arith in
    let x : ℕ = get_or row i 0 in
    ap (sets table (at + i)) (drop-cons row i 0 h)
    ∙ ap (λ (k : ℕ). sets (set table (at + i) x) k (drop (suc i) row)) e
    ∙ ap (λ (k : ℕ). sets (set table (at + i) x) (at + (i + 1)) (drop k row)) f

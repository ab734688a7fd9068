-- The sizes of the version line, the lines of the rows and the trailers in bytes, and upper bounds of them.
-- Assumes nothing.
use Rattle.std.specs.Prelude.{◌≡◌, ℕ, ◌+◌, ◌*◌, ◌^◌, ◌≤◌, ◌<◌, Bool, true, false, cond, length}
use Rattle.std.proofs.Math.Path.{refl}
use native.Mathlib.Omega.{arith}
use mathlib.Core.List.{List, [], ◌∷◌, ◌++◌}
use Rattle.std.proofs.Math.ListN.{length-append}
use Rattle.decode.specs.declared.StringSpan.{StringSpan}
use Rattle.table.specs.declared.Row.{Row}
use Rattle.phd.specs.Shapes.{ValidBits}
use Rattle.phd_check.specs.GoodRows.{vm_text}
use Rattle.table.specs.Rows.{All}
use Rattle.phd_check.specs.WellFormed.{VmInBounds, length_vm_text}
use Rattle.table.specs.Sums.{sum}
use Rattle.phd_counts.specs.Counts.{kind_count, row_ref_count, nulls, tally_of}
use Rattle.phd_counts.specs.CountLoop.{CountBounds, sum_le_length}
use Rattle.phd_counts.specs.declared.Tally.{Tally}
use Rattle.digits.specs.Digits.{ascii, digit_count}
use Rattle.classic.specs.ClassicText.{row_lines, version_line, unlines}
use Rattle.classic.specs.RowBounds.{RowNumbersInBounds, AllNumbersInBounds, RefsInBounds, AllRefsInBounds}
use Rattle.digits.specs.DigitLengths.{length_decimal, digit_count_le_20}
use Rattle.classic_row.specs.RowText.{row_text, row_size, length_row_text, row_size_le}
use Rattle.classic_write.specs.TextParts.{TallyBound, unlines_append, version_text, rows_text, rows_size, tally_trailers, tally_breakdown, tally_totals}

-- ---- the version line

-- The version line has 13 bytes and those of the VM string, if there is one.
pub length_version : (names : List ℕ) (t : StringSpan) → VmInBounds names t → length (version_text names t) ≡ 13 + cond t.present t.len 0
unfolding version_text version_line unlines
length_version names t v = by t.present refl
  where
    by : (b : Bool) → t.present ≡ b → length ((ascii "// Version: " ++ cond b (vm_text names t) []) ++ (0x0A ∷ [])) ≡ 13 + cond b t.len 0
    by true e = let l = length_vm_text names t v e in simp length-append (omega arith)
    by false e = refl

-- It has at most 65,548 bytes.
pub version_le : (names : List ℕ) (t : StringSpan) → VmInBounds names t → length (version_text names t) ≤ 65548
version_le names t v = rw (length_version names t v) (by t.present refl)
  where
    by : (b : Bool) → t.present ≡ b → 13 + cond b t.len 0 ≤ 65548
    by true e = let s = v.short e in omega arith
    by false e = omega arith

-- ---- the rows

-- The lines of r and the rows after it are r's lines, then those of the others. `rows` are all rows, among which classes are
-- looked up.
pub unlines_row_cons : (bits : ℕ) (names refs : List ℕ) (rows : List Row) (r : Row) (some : List Row)
    → unlines (row_lines bits names refs rows (r ∷ some)) ≡ row_text bits names refs rows r ++ unlines (row_lines bits names refs rows some)
unfolding row_lines row_text
unlines_row_cons bits names refs rows r some = unlines_append (_ ∷ _ ∷ []) _

module _ (bits : ℕ) (names refs : List ℕ) (rows : List Row) where
  length_rows_from : (some : List Row) → All (RefsInBounds refs) some → length (unlines (row_lines bits names refs rows some)) ≡ sum (row_size bits names rows) some
  unfolding row_lines unlines sum
  length_rows_from [] a = refl
  length_rows_from (r ∷ some) a =
      let l = length_row_text bits names refs rows r a.0 in
      let t = length_rows_from some a.1 in
      rw (unlines_row_cons, length-append, l, t)

  -- The length of the lines of all rows is `rows_size`.
  pub length_rows_text : AllRefsInBounds refs rows → length (rows_text bits names refs rows) ≡ rows_size bits names rows
  unfolding rows_text rows_size
  length_rows_text l = length_rows_from rows l.span

module _ (bits : ℕ) (names refs : List ℕ) (rows : List Row) (w : ValidBits bits) (a : AllNumbersInBounds names rows) where
  rows_size_from_most : (some : List Row) → All (RowNumbersInBounds names) some → sum (row_size bits names rows) some ≤ length some * 65700 + sum row_ref_count some * 19
  unfolding sum
  rows_size_from_most [] b = omega arith
  rows_size_from_most (r ∷ some) b =
      let m = row_size_le bits names rows r w a b.0 in
      let t = rows_size_from_most some b.1 in
      omega arith

  -- At most 65,700 bytes for each of at most 2^30 rows, and 19 for each of at most 2^30 references.
  pub rows_size_le : AllRefsInBounds refs rows → length rows ≤ 2 ^ 30 → length refs ≤ 2 ^ 30 → rows_size bits names rows ≤ 2 ^ 30 * 65700 + 2 ^ 30 * 19
  unfolding rows_size
  rows_size_le l f g =
      let m = rows_size_from_most rows a.row in
      let c = l.all in
      omega arith

-- ---- the trailers

-- The references and nulls of rows with bounded counts are together below 2^62.
pub tally_bound : (rows : List Row) → CountBounds rows → TallyBound (tally_of rows)
unfolding tally_of
tally_bound rows f =
    let r = f.refs_bound in
    let n = f.nulls_bound in
    record { small = omega arith }

-- The trailers have 113 bytes that do not depend on the counts, and the digits of seven numbers.
pub length_trailers : (t : Tally)
    → length (tally_trailers t) ≡ 113 + (digit_count t.classes + digit_count t.objects + digit_count t.arrays + digit_count t.primitives) + (digit_count t.rows + digit_count (t.refs + t.nulls) + digit_count t.nulls)
unfolding tally_trailers tally_breakdown tally_totals unlines
length_trailers t = simp (length-append, length_decimal) (omega arith)

-- They have at most 253 bytes: 113, and 20 digits for each of seven numbers.
pub trailers_le : (rows : List Row) → CountBounds rows → length (tally_trailers (tally_of rows)) ≤ 253
unfolding tally_of
trailers_le rows f =
    let m : (n : ℕ) → n < 2 ^ 62 → digit_count n ≤ 20 = λ n l. digit_count_le_20 n (omega arith) in
    let k : (k : ℕ) → digit_count (sum (kind_count k) rows) ≤ 20 = λ k. let s = sum_le_length k rows in let r = f.rows_bound in m _ (omega arith) in
    let n = f.nulls_bound in
    let r = m (length rows) (omega (arith, f.rows_bound)) in
    let s = m (sum row_ref_count rows + nulls rows) (tally_bound rows f).small in
    let z = m (nulls rows) (omega arith) in
    rw length_trailers (omega (arith, k 1, k 2, k 3, k 4))

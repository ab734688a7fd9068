-- The three parts of the text, sized and written one after the other, give the whole text: for `Source`. And what the
-- class index asks of good tables.
use mathlib.Core.Path.{◌≡◌}
use Prim.Native.Nat.{ℕ, ◌+◌, ◌^◌, ◌<◌}
use native.Mathlib.Omega.{arith}
use mathlib.Core.List.{List, ◌++◌}
use lib.ListN.{length}
use lib.ListN.{length-append}
use Rattle.encode.specs.declared.encoder.Encoder.{Encoder}
use Rattle.encode.specs.Wrote.{Wrote, wrote_then}
use Rattle.table.specs.Table.{row_count}
use Rattle.table.specs.Rows.{rows_of, length_rows}
use Rattle.table.specs.declared.Row.{Row}
use Rattle.phd.specs.declared.Header.{Header}
use Rattle.phd_check.specs.GoodRows.{TablesGood}
use Rattle.phd_counts.specs.Counts.{tally_of}
use Rattle.phd_counts.specs.ExactCounts.{exact_counts}
use Rattle.phd_counts.specs.declared.Tally.{Tally}
use Rattle.classic.specs.ClassicText.{text_of}
use Rattle.classic.specs.RowBounds.{AllNumbersInBounds, all_in_bounds}
use Rattle.classic_write.specs.TextParts.{TallyBound, version_text, rows_text, rows_size, tally_trailers, text_parts}
use Rattle.classic_write.specs.TextSizes.{tally_bound, trailers_le}
use Rattle.classic_write.specs.TextOutcomes.{rows_size_lt}
use Rattle.classic_write.specs.TextTheorems.{text_length}

-- Good tables have few rows, and their numbers are in bounds.
pub good_enterable : (h : Header) (names refs table : List ℕ) → TablesGood h names refs (rows_of table) → (row_count table < 2 ^ 31) × AllNumbersInBounds names (rows_of table)
good_enterable h names refs table a = (omega (arith, length_rows table, (exact_counts h names refs (rows_of table) a).few.rows_bound), all_in_bounds h names refs (rows_of table) a)

module _ (h : Header) (names refs : List ℕ) (rows : List Row) (t : Tally) (e : t ≡ tally_of rows) where
  parts : text_of h names refs rows ≡ version_text names h.vm ++ (rows_text h.bits names refs rows ++ tally_trailers t)
  parts = rw e (text_parts h names refs rows)

  -- The references and nulls of the tally of good tables are together below 2^62.
  pub tally_bound_of : TablesGood h names refs rows → TallyBound t
  tally_bound_of a = rw e (tally_bound rows (exact_counts h names refs rows a).few)

  -- The sizes that the functions compute: v of the version line, w of it with the lines of the rows, x of the trailers.
  module _ (a : TablesGood h names refs rows) (v w x : ℕ) (p : v ≡ length (version_text names h.vm)) (q : w ≡ v + rows_size h.bits names rows) (r : x ≡ length (tally_trailers t)) where
    trailers_is : x ≡ length (tally_trailers (tally_of rows))
    trailers_is = rw e at r

    -- The whole size is the length of the text.
    pub size_is : w + x ≡ length (text_of h names refs rows)
    size_is =
        let s = text_length h names refs rows a in
        let z = trailers_is in
        omega arith

    -- The whole size is below 2^63, so its sum does not overflow.
    pub size_lt : w + x < 2 ^ 63
    size_lt =
        let s = rows_size_lt h names refs rows a in
        let m = trailers_le rows (exact_counts h names refs rows a).few in
        let z = trailers_is in
        omega arith

  -- The parts, encoded one after the other, are the text.
  module _ {first second third last : Encoder} (p : Wrote first second (version_text names h.vm)) (q : Wrote second third (rows_text h.bits names refs rows)) (r : Wrote third last (tally_trailers t)) where
    pub text_encoded : Wrote first last (text_of h names refs rows)
    text_encoded = rw parts (wrote_then p (wrote_then q r))

  -- An output with capacity for the text has room for each part.
  pub text_room : length (text_of h names refs rows) ≡ length (version_text names h.vm) + length (rows_text h.bits names refs rows) + length (tally_trailers t)
  text_room = rw parts (simp length-append (omega arith))

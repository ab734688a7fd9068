-- Tallies of tables that agree on their first rows.
-- Assumes nothing.
use Rattle.std.specs.Prelude.{◌≡◌, ℕ, ◌*◌, ◌≤◌, ◌<◌, List, take}
use Rattle.std.proofs.Common.{sym, ap, ◌∙◌, get_or-take}
use Rattle.table.specs.Table.{row_width, row_count}
use Rattle.table.specs.Rows.{zero_row, rows_of, nth}
use Rattle.table.specs.declared.Row.{Row}
use Rattle.summaries.specs.declared.Summary.{Summary}
use Rattle.summaries.specs.ClassRowsLast.{entries_after}
use Rattle.summary_index.specs.declared.Bucket.{Bucket}
use Rattle.summary_pass.specs.declared.Tally.{Tally}
use Rattle.summary_pass.specs.PassState.{TallyHolds, ListHolds}
use Rattle.classes_read.specs.RowLists.{rows_of_take}

-- Tables that agree on their first n rows have the same first rows.
pub same_rows : (rows rows' : List ℕ) (n : ℕ) → n ≤ row_count rows → n ≤ row_count rows' → take (n * row_width) rows' ≡ take (n * row_width) rows → take n (rows_of rows') ≡ take n (rows_of rows)
same_rows rows rows' n a b e = sym (rows_of_take rows' n b) ∙ (ap rows_of e ∙ rows_of_take rows n a)

module _ {rows : List ℕ} {buckets : List Bucket} (rows' : List ℕ) {t : Tally} (w : TallyHolds rows buckets t)
    (same : take t.counted (rows_of rows') ≡ take t.counted (rows_of rows)) (same_count : row_count rows' ≡ row_count rows) where
  nth_same : (i : ℕ) → i < t.counted → nth (rows_of rows') i ≡ nth (rows_of rows) i
  nth_same i l = sym (get_or-take t.counted (rows_of rows') i zero_row l) ∙ (ap (λ (x : List Row). nth x i) same ∙ get_or-take t.counted (rows_of rows) i zero_row l)

  -- A tally of a table is one of another with the same rows first.
  pub tally_kept : TallyHolds rows' buckets t
  tally_kept = record {
    counted_in = rw same_count w.counted_in;
    counted_few = w.counted_few;
    index = rw same w.index;
    small = λ i l. rw (nth_same i l) (w.small i l);
    class_rows = λ i l e. w.class_rows i l (rw (← nth_same i l) e);
    class_rows_in = w.class_rows_in;
    lowest_in = w.lowest_in;
    range_in = w.range_in;
  }

  pub list_kept : {classes : List Summary} → ListHolds rows classes t 0 → ListHolds rows' classes t 0
  unfolding entries_after
  list_kept v = record { entries = rw same v.entries; used_in = v.used_in }

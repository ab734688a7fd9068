-- The result of a reading with class summaries that ends at a cursor: with the reply of the reading into the tables if the list has an
-- entry for every row, with reply 20 if it has none for the record at the cursor.
-- Assumes nothing.
use Rattle.std.specs.Prelude.{◌≡◌, refl, ℕ, suc, ◌+◌, ◌*◌, ◌≤◌, ◌<◌, List, [], ◌∷◌, ◌++◌, take, drop}
use Rattle.std.proofs.Math.Path.{ap}
use Rattle.std.proofs.Common.{◌∙◌, append_assoc}
use native.Mathlib.Omega.{arith}
use Rattle.std.proofs.Math.ListN.{length, length-append}
use Rattle.std.proofs.Math.Seq.{length-take-le}
use borrow.Author.Tests.{eq-eqb, ne_eqb}
use Rattle.table.specs.Table.{row_width, row_count}
use Rattle.table.specs.Rows.{row_at, rows_of, length_rows, rows_of_snoc}
use Rattle.table.specs.declared.Row.{Row}
use Rattle.summaries.specs.Summaries.{keyed, keys}
use Rattle.phd.specs.Phd.{limit, phd, Result, State, read_result, capacity}
use Rattle.phd.specs.declared.Header.{Header}
use Rattle.decode.specs.Layout.{whole}
use Rattle.reader.specs.Reader.{item, go, ended, append_item, next_item, step, records, initial_state}
use Rattle.reader.specs.Steps.{read_header_whole, records_halt, step_item, step_no_row}
use Rattle.reader.proofs.Steps.{records_step}
use Rattle.reader.specs.Prefixes.{Prefix}
use Rattle.reader.proofs.Prefixes.{records_extend}
use Rattle.reader.specs.TableSteps.{state_of}
use Rattle.phd_read.specs.PhdLaws.{phd_lawful}
use Rattle.phd_read.specs.PhdSteps.{cursor_of, ManySteps, StepEnds, initial_cursor}
use Rattle.phd_read.specs.declared.records.Cursor.{Cursor}
use Rattle.classes_read.specs.ClassesRead.{rows_within, with_reply, classes_result}
use Rattle.classes_read.specs.RowsWithin.{within_all, within_until}
use Rattle.classes_read.specs.RowLists.{rows_of_take, rows_of_prefix}
use Rattle.phd_classes.specs.ReadState.{Opened, FittingRecord}

module _ {dump rows₀ refs₀ : List ℕ} {h : Header} {first : ℕ} (o : Opened dump h first) {rows refs : List ℕ} {k : Cursor} (w : ManySteps h dump (initial_cursor first) rows₀ refs₀ rows refs k) where
  -- The state at the cursor.
  abbrev pub here : State
  here = state_of (cursor_of k) rows refs

  rows_taken : length (take (k.rows * row_width) rows) ≡ k.rows * row_width
  rows_taken = length-take-le (k.rows * row_width) rows w.fits.rows_in

  refs_taken : length (take k.refs refs) ≡ k.refs
  refs_taken = length-take-le k.refs refs w.fits.refs_in

  pub in_table : k.rows ≤ row_count rows
  unfolding row_count
  in_table = let i = w.fits.rows_in in omega arith

  rows_here : rows_of (take (k.rows * row_width) rows) ≡ take k.rows (rows_of rows)
  rows_here = rows_of_take rows k.rows in_table

  count_here : row_count (take (k.rows * row_width) rows) ≡ k.rows
  unfolding row_count
  count_here = rw rows_taken (omega arith)

  -- With capacity for what is stored, the reading comes here.
  pub read_here : (R F : ℕ) → k.rows * row_width ≤ R → k.refs ≤ F → read_result dump R F ≡ records phd (suc limit) h dump (capacity R F) here
  unfolding initial_state
  read_here R F p q = read_header_whole phd dump (capacity R F) h first o.in_limit o.is ∙ w.left (capacity R F) p q

  module _ (C : ℕ) where
    -- The reading into the tables ends here, and the list has entries for all rows.
    pub end_result : {reply place missing : ℕ} → StepEnds h dump k rows refs rows refs k reply place missing → length (keys (take k.rows (rows_of rows))) ≤ C
        → classes_result dump (length rows₀) (length refs₀) C ≡ ended h here reply place missing
    unfolding classes_result ended
    end_result {reply} {place} {missing} g fits =
        let a = w.rows_length in
        let b = w.refs_length in
        let i = w.fits.rows_in in
        let j = w.fits.refs_in in
        let r : read_result dump (length rows₀) (length refs₀) ≡ ended h here reply place missing =
        read_here (length rows₀) (length refs₀) (omega arith) (omega arith) ∙ records_halt phd limit h dump (capacity (length rows₀) (length refs₀)) here _ (rw (← a, ← b) g.steps) in
        let n : rows_within C (take k.rows (rows_of rows)) ≡ k.rows = within_all C (take k.rows (rows_of rows)) fits ∙ length-take-le k.rows (rows_of rows) (rw (length_rows rows) in_table) in
        rw (r, rows_here, n, count_here, eq-eqb k.rows k.rows refl)

    -- The record here fits the tables, but the list has no entry for it.
    module _ (row : List ℕ) (f : FittingRecord h dump rows refs k row) (fits : length (keys (take k.rows (rows_of rows))) ≤ C) (over : C < length (keyed (row_at row 0) (keys (take k.rows (rows_of rows))))) where
      abbrev next : State
      next = append_item here row f.item_refs f.context f.end

      item_here : next_item phd h dump here ≡ whole (item row f.item_refs f.note f.context) f.end
      item_here = rw refs_taken f.is

      goes : step phd h dump (capacity (length rows₀) (length refs₀)) here ≡ go next
      goes =
          let a = w.rows_length in
          let b = w.refs_length in
          let x = f.row_fits in
          let y = f.refs_fit in
          let z = f.row_full in
          step_item phd h dump (capacity (length rows₀) (length refs₀)) here row f.item_refs f.note f.context f.end item_here
          (rw rows_taken (omega arith)) (rw refs_taken (omega arith))

      -- The result of the reading into the tables, and its rows.
      abbrev whole_result : Result
      whole_result = read_result dump (length rows₀) (length refs₀)

      goes_on : whole_result ≡ records phd (suc limit) h dump (capacity (length rows₀) (length refs₀)) next
      goes_on =
          let a = w.rows_length in
          let b = w.refs_length in
          let i = w.fits.rows_in in
          let j = w.fits.refs_in in
          read_here (length rows₀) (length refs₀) (omega arith) (omega arith) ∙ records_step phd phd_lawful h dump (capacity (length rows₀) (length refs₀)) here next o.in_limit goes

      extends : Prefix (take (k.rows * row_width) rows ++ row) whole_result.rows
      extends = rw goes_on (records_extend phd h dump (capacity (length rows₀) (length refs₀)) (suc limit) next).0

      length_both : length (take (k.rows * row_width) rows ++ row) ≡ (k.rows + 1) * row_width
      length_both = let z = f.row_full in let t = rows_taken in length-append (take (k.rows * row_width) rows) row ∙ omega arith

      rows_whole : rows_of whole_result.rows ≡ take k.rows (rows_of rows) ++ (row_at row 0 ∷ drop (k.rows + 1) (rows_of whole_result.rows))
      rows_whole =
          let e = extends.all in
          let p = rows_of_prefix (take (k.rows * row_width) rows ++ row) extends.more (k.rows + 1) length_both in
          let s : rows_of (take (k.rows * row_width) rows ++ row) ≡ rows_of (take (k.rows * row_width) rows) ++ (row_at row 0 ∷ []) = rows_of_snoc (take (k.rows * row_width) rows) row (rw rows_taken (omega arith)) f.row_full in
          rw e at p ∙ (ap (λ (x : List Row). x ++ drop (k.rows + 1) (rows_of whole_result.rows)) (s ∙ ap (λ (x : List Row). x ++ (row_at row 0 ∷ [])) rows_here)
          ∙ append_assoc (take k.rows (rows_of rows)) (row_at row 0 ∷ []) (drop (k.rows + 1) (rows_of whole_result.rows)))

      within_here : rows_within C (rows_of whole_result.rows) ≡ k.rows
      within_here =
          rw rows_whole (within_until C (take k.rows (rows_of rows)) (row_at row 0) (drop (k.rows + 1) (rows_of whole_result.rows)) fits over)
          ∙ length-take-le k.rows (rows_of rows) (rw (length_rows rows) in_table)

      more_rows : k.rows < row_count whole_result.rows
      unfolding row_count
      more_rows =
          let e = ap length extends.all in
          let a : length ((take (k.rows * row_width) rows ++ row) ++ extends.more) ≡ length (take (k.rows * row_width) rows ++ row) + length extends.more = length-append (take (k.rows * row_width) rows ++ row) extends.more in
          let b = length_both in
          omega arith

      cut_short : read_result dump (k.rows * row_width) (length refs₀) ≡ ended h here 13 k.at 0
      cut_short =
          let b = w.refs_length in
          let j = w.fits.refs_in in
          let z = f.row_full in
          read_here (k.rows * row_width) (length refs₀) (omega arith) (omega arith)
          ∙ records_halt phd limit h dump (capacity (k.rows * row_width) (length refs₀)) here _
          (step_no_row phd h dump (capacity (k.rows * row_width) (length refs₀)) here row f.item_refs f.note f.context f.end item_here (rw rows_taken (omega arith)))

      pub full_result : classes_result dump (length rows₀) (length refs₀) C ≡ ended h here 20 k.at 0
      unfolding classes_result with_reply ended
      full_result = let m = more_rows in rw (within_here, ne_eqb k.rows (row_count whole_result.rows) (λ z. omega arith), cut_short)

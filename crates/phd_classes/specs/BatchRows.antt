-- The rows of a batch: how many there are, that their numbers are small, that the rows before them are kept, and how many keys they have.
-- Assumes nothing.
use Rattle.std.specs.Prelude.{◌≡◌, refl, ◌⊎◌, ℕ, zero, suc, ◌+◌, ◌-◌, ◌*◌, ◌^◌, ◌≤◌, ◌<◌, length, take, drop}
use Rattle.std.proofs.Common.{sym, ap, ◌∙◌, inl, inr, length-append, take-append-drop, length-take-le, take-add, get_or-take}
use native.Mathlib.Omega.{arith}
use mathlib.Core.List.{List, [], ◌∷◌, ◌++◌, append-nil}
use Rattle.std.proofs.Math.ListN.{get_or-append}
use Rattle.table.specs.Buffer.{overwrite}
use Rattle.table.specs.Table.{row_width, row_count, number}
use Rattle.table.specs.Rows.{zero_row, rows_of, nth, row_at, length_rows, nth_row, rows_of_snoc}
use Rattle.table.specs.declared.Row.{Row}
use Rattle.summaries.specs.Summaries.{keyed, keys}
use Rattle.summaries.specs.SummaryKeys.{keys_append, keys_next}
use Rattle.summaries.specs.KeyCounts.{keys_from_length}
use Rattle.summaries.specs.EntryBounds.{SmallRow}
use Rattle.phd.specs.Phd.{limit, phd, State, read_result, capacity}
use Rattle.phd.specs.declared.Header.{Header}
use Rattle.reader.specs.Reader.{records}
use Rattle.reader.specs.Prefixes.{Prefix}
use Rattle.reader.proofs.Prefixes.{records_extend}
use Rattle.reader.specs.TableSteps.{CursorOf}
use Rattle.reader.specs.ManySteps.{FirstStep, NoStep}
use Rattle.phd_read.specs.PhdLaws.{phd_always}
use Rattle.phd_read.specs.PhdSteps.{cursor_of, ManySteps, Continued, initial_cursor}
use Rattle.phd_read.specs.SizeBounds.{SizeInBounds, read_sizes_in_bounds}
use Rattle.phd_read.specs.declared.records.Cursor.{Cursor}
use Rattle.classes_read.specs.RowLists.{rows_of_take, rows_of_prefix}
use Rattle.phd_classes.specs.ReadState.{Opened, FittingRecord}
use Rattle.phd_classes.specs.PassRows.{same_rows}
use Rattle.phd_classes.specs.EndResults.{here, read_here, in_table}

-- A buffer that is unchanged from index n on is the old one with its first n elements stored at the start.
pub overwrite_first : {A : Type 0} (l l₀ : List A) (n : ℕ) → n ≤ length l → drop n l ≡ drop n l₀ → l ≡ overwrite l₀ (take n l)
unfolding overwrite
overwrite_first l l₀ n h e = rw (length-take-le n l h, ← e) (sym (take-append-drop n l))

-- A table with so many numbers has at least n rows.
rows_in : (all : List ℕ) (n m i : ℕ) → length all ≡ n * row_width + m → i < n → i < row_count all
unfolding row_count
rows_in all n m i e l = omega arith

small_row : (all : List ℕ) (j : ℕ) → SizeInBounds (number all j 6) (number all j 7) → SmallRow (row_at all j)
unfolding row_at
small_row all j b = record { size = b.size_below; count = b.count_below }

module _ {dump rows₀ refs₀ : List ℕ} {h : Header} {first : ℕ} (o : Opened dump h first) {rows refs : List ℕ} {k : Cursor} (w : ManySteps h dump (initial_cursor first) rows₀ refs₀ rows refs k) where
  -- Every record has a byte, so there are at most 2^30.
  pub rows_few : k.rows ≤ 2 ^ 30
  unfolding limit
  rows_few = let f = w.forward in let a = w.fits.at_in in let l = o.in_limit in omega arith

  -- The rows stored are those of a reading, so their numbers are small.
  pub rows_small : (i : ℕ) → i < k.rows → SmallRow (nth (rows_of rows) i)
  rows_small i l =
      let a = w.rows_length in
      let b = w.refs_length in
      let x = w.fits.rows_in in
      let y = w.fits.refs_in in
      let r = read_result dump (length rows₀) (length refs₀) in
      let e : r ≡ records phd (suc limit) h dump (capacity (length rows₀) (length refs₀)) (here o w) = read_here o w (length rows₀) (length refs₀) (omega arith) (omega arith) in
      let p : Prefix (take (k.rows * row_width) rows) r.rows = rw e (records_extend phd h dump (capacity (length rows₀) (length refs₀)) (suc limit) (here o w)).0 in
      let t : length (take (k.rows * row_width) rows) ≡ k.rows * row_width = length-take-le (k.rows * row_width) rows x in
      let q : rows_of r.rows ≡ rows_of (take (k.rows * row_width) rows) ++ drop k.rows (rows_of r.rows) = rw p.all at (rows_of_prefix (take (k.rows * row_width) rows) p.more k.rows t) in
      let z : rows_of (take (k.rows * row_width) rows) ≡ take k.rows (rows_of rows) = rows_of_take rows k.rows (in_table o w) in
      let n : length (take k.rows (rows_of rows)) ≡ k.rows = length-take-le k.rows (rows_of rows) (rw (length_rows rows) (in_table o w)) in
      let g : nth (rows_of r.rows) i ≡ nth (rows_of rows) i =
      ap (λ (y : List Row). nth y i) (q ∙ ap (λ (y : List Row). y ++ drop k.rows (rows_of r.rows)) z) ∙ (get_or-append (take k.rows (rows_of rows)) (drop k.rows (rows_of r.rows)) zero_row i (rw n l) ∙ get_or-take k.rows (rows_of rows) i zero_row l) in
      let c : i < row_count r.rows = rows_in r.rows k.rows (length p.more) i (sym (ap length p.all) ∙ (length-append (take (k.rows * row_width) rows) p.more ∙ rw t)) l in
      rw (← g, nth_row r.rows i c) (small_row r.rows i (read_sizes_in_bounds dump (length rows₀) (length refs₀) o.bytes i c))

-- ---- a batch

take-length : (n : ℕ) (rows : List Row) → length (take n rows) ≤ n
take-length zero rows = omega arith
take-length (suc n) [] = omega arith
take-length (suc n) (r ∷ rows) = let h = take-length n rows in omega arith

nothing_left : (l : List ℕ) → length l ≡ 0 → l ≡ []
nothing_left [] e = refl
nothing_left (x ∷ l) e = absurd (omega arith)

module _ {h : Header} {dump rows refs rows' refs' : List ℕ} {k k' : Cursor} {upto : ℕ} (c : Continued h dump k rows refs upto rows' refs' k') (k_in : k.rows * row_width ≤ length rows) where
  -- The rows before the batch are kept.
  rows_before : k.rows ≤ row_count rows
  unfolding row_count
  rows_before = omega arith

  rows_after : k'.rows ≤ row_count rows'
  unfolding row_count
  rows_after = let i = c.steps.fits.rows_in in omega arith

  same_count : row_count rows' ≡ row_count rows
  unfolding row_count
  same_count = rw c.steps.rows_length

  pub rows_kept : take k.rows (rows_of rows') ≡ take k.rows (rows_of rows)
  rows_kept = same_rows rows rows' k.rows rows_before (rw same_count rows_before) c.steps.rows_kept

  -- The rows up to the end of the batch are those before it, and the others.
  rows_split : take k'.rows (rows_of rows') ≡ take k.rows (rows_of rows) ++ take (k'.rows - k.rows) (drop k.rows (rows_of rows'))
  rows_split =
      let l = c.steps.rows_le in
      let e : k.rows + (k'.rows - k.rows) ≡ k'.rows = omega arith in
      rw rows_kept at (rw e at (take-add k.rows (k'.rows - k.rows) (rows_of rows')))

  -- They have at most as many keys more as there are rows.
  keys_more : length (keys (take k'.rows (rows_of rows'))) ≤ length (keys (take k.rows (rows_of rows))) + (k'.rows - k.rows)
  unfolding keys
  keys_more =
      let m = (keys_from_length (keys (take k.rows (rows_of rows))) (take (k'.rows - k.rows) (drop k.rows (rows_of rows')))).1 in
      let n = take-length (k'.rows - k.rows) (drop k.rows (rows_of rows')) in
      rw (rows_split, keys_append [] (take k.rows (rows_of rows)) (take (k'.rows - k.rows) (drop k.rows (rows_of rows')))) (omega arith)

  -- The record of a batch that was read first.
  fitting : (f : FirstStep phd h dump (cursor_of k) rows refs rows' (cursor_of k')) → k.refs ≤ length refs → FittingRecord h dump rows refs k f.item.row
  fitting f r_in =
      let i = f.item in
      let n = phd_always h (cursor_of k).context (length (take k.refs refs)) dump k.at i.row i.refs i.note i.context i.end i.is in
      let t : length (take (k.rows * row_width) rows) ≡ k.rows * row_width = length-take-le (k.rows * row_width) rows k_in in
      let u : length (take k.refs refs) ≡ k.refs = length-take-le k.refs refs r_in in
      let x : length f.next.rows ≡ k.rows * row_width + length i.row = ap (λ (z : State). length z.rows) i.next ∙ (length-append (take (k.rows * row_width) rows) i.row ∙ rw t) in
      let y : length f.next.refs ≡ k.refs + length i.refs = ap (λ (z : State). length z.refs) i.next ∙ (length-append (take k.refs refs) i.refs ∙ rw u) in
      let rf = f.rows_fit in
      let ff = f.refs_fit in
      record {
        item_refs = i.refs;
        note = i.note;
        context = i.context;
        end = i.end;
        is = rw u at i.is;
        row_full = n;
        row_fits = omega arith;
        refs_fit = omega arith;
      }

  -- A batch of one row that needs no new entry has no new key.
  one_row : upto ≡ k.rows + 1 → (f : FirstStep phd h dump (cursor_of k) rows refs rows' (cursor_of k')) → k.refs ≤ length refs
      → take k'.rows (rows_of rows') ≡ take k.rows (rows_of rows) ++ (row_at f.item.row 0 ∷ [])
  one_row u f r_in =
      let g = fitting f r_in in
      let n = g.row_full in
      let t : length (take (k.rows * row_width) rows) ≡ k.rows * row_width = length-take-le (k.rows * row_width) rows k_in in
      let p = f.rows_first in
      let e : f.next.rows ≡ take (k.rows * row_width) rows ++ f.item.row = ap (λ (z : State). z.rows) f.item.next in
      let x : length f.next.rows ≡ (k.rows + 1) * row_width = ap length e ∙ (length-append (take (k.rows * row_width) rows) f.item.row ∙ (rw (t, n) (omega arith))) in
      let y : length (take (k'.rows * row_width) rows') ≡ k'.rows * row_width = length-take-le (k'.rows * row_width) rows' c.steps.fits.rows_in in
      let z : length f.next.rows + length p.more ≡ k'.rows * row_width = sym (length-append f.next.rows p.more) ∙ (ap length p.all ∙ y) in
      let m : k'.rows ≤ k.rows + 1 = most c.at_most in
      let v : length p.more ≡ 0 = omega arith in
      let a : take (k'.rows * row_width) rows' ≡ take (k.rows * row_width) rows ++ f.item.row = sym p.all ∙ (ap (λ (q : List ℕ). f.next.rows ++ q) (nothing_left p.more v) ∙ (append-nil f.next.rows ∙ e)) in
      sym (rows_of_take rows' k'.rows rows_after) ∙ (ap rows_of a ∙ (rows_of_snoc (take (k.rows * row_width) rows) f.item.row (rw t (omega arith)) n ∙ ap (λ (q : List Row). q ++ (row_at f.item.row 0 ∷ [])) (rows_of_take rows k.rows rows_before)))
    where
      most : (k'.rows ≤ upto) ⊎ (k'.rows ≡ k.rows) → k'.rows ≤ k.rows + 1
      most (inl l) = omega arith
      most (inr q) = omega arith

  -- The keys of the rows up to the end of the batch fit a list of C entries.
  pub batch_keys : (C : ℕ) → k.refs ≤ length refs → length (keys (take k.rows (rows_of rows))) ≤ C
      → (length (keys (take k.rows (rows_of rows))) + upto ≤ k.rows + C)
      ⊎ ((upto ≡ k.rows + 1) × ((row : List ℕ) → FittingRecord h dump rows refs k row → length (keyed (row_at row 0) (keys (take k.rows (rows_of rows)))) ≤ length (keys (take k.rows (rows_of rows)))))
      → length (keys (take k'.rows (rows_of rows'))) ≤ C
  batch_keys C r_in fits (inl l) = let m = keys_more in let r = c.steps.rows_le in most c.at_most
    where
      most : (k'.rows ≤ upto) ⊎ (k'.rows ≡ k.rows) → length (keys (take k'.rows (rows_of rows'))) ≤ C
      most (inl q) = let m = keys_more in let r = c.steps.rows_le in omega arith
      most (inr q) = let m = keys_more in omega arith
  batch_keys C r_in fits (inr (u, none)) = by c.steps.begins
    where
      by : NoStep (cursor_of k) rows refs rows' refs' (cursor_of k') ⊎ FirstStep phd h dump (cursor_of k) rows refs rows' (cursor_of k') → length (keys (take k'.rows (rows_of rows'))) ≤ C
      by (inl n) =
          let q : k'.rows ≡ k.rows = ap (λ (x : CursorOf phd). x.rows) n.same_cursor in
          let m = keys_more in
          omega arith
      by (inr f) =
          let g = none f.item.row (fitting f r_in) in
          rw (one_row u f r_in, keys_next (take k.rows (rows_of rows)) (row_at f.item.row 0)) (omega arith)

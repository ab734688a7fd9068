-- The loop invariants of the functions that size and write the rows: each holds at the start, every row preserves it, and at the
-- end it implies the contract.
-- Assumes nothing.
use Rattle.std.specs.Prelude.{Result, Ok, Err, ◌≡◌, ℕ, ◌+◌, ◌^◌, ◌≤◌, ◌<◌, Bool, true, false, List, [], ◌++◌, None}
use Rattle.std.proofs.Math.Path.{refl}
use native.Mathlib.Omega.{arith}
use Rattle.std.proofs.Math.ListN.{length-append}
use Rattle.encode.specs.declared.encoder.Encoder.{Encoder}
use Rattle.encode.specs.Wrote.{Wrote, HasRoom, Remains, remains_start, remains_next, remains_done}
use Rattle.table.specs.Table.{row_count}
use Rattle.table.specs.Rows.{row_at, rows_of, all_at, rows_left, rows_left_next, rows_left_none, length_rows, nth_row}
use Rattle.table.specs.Sums.{sum_left, sum_left_next, sum_left_none}
use Rattle.table.specs.Search.{first_row, SearchInvariant, search_start, search_done}
use Rattle.table.proofs.SearchLaws.{first_row_none, search_found, search_next}
use Rattle.table.specs.declared.Row.{Row}
use Rattle.classic.specs.ClassicText.{class_missing, row_lines, unlines}
use Rattle.classic.specs.RowBounds.{RowNumbersInBounds, KnownKind, AllNumbersInBounds, RefsInBounds, AllRefsInBounds}
use Rattle.classic_row.specs.RowText.{row_text, row_size}
use Rattle.phd_counts.specs.Counts.{tally_of}
use Rattle.phd_counts.specs.declared.Tally.{Tally}
use Rattle.classic_write.specs.TextParts.{rows_text, rows_size, size_or_missing}
use Rattle.classic_write.specs.TextSizes.{unlines_row_cons}
use Rattle.table.specs.declared.Refusal.{Refusal}
use Rattle.table.specs.declared.Refusal.TheVariants.{ClassMissing}
use Rattle.classic_write.specs.declared.TextSize.{TextSize}

-- ---- the rest of a table, from row i on

-- The bytes of the lines of the rows from i on.
unfoldable pub text_left : ℕ → (names refs table : List ℕ) → ℕ → List ℕ
text_left bits names refs table i = unlines (row_lines bits names refs (rows_of table) (rows_left table i))

-- ---- row i, as the row r that the functions use

module _ (table : List ℕ) (i : ℕ) (r : Row) (l : i < row_count table) (e : r ≡ row_at table i) where
  pub row_in_bounds : (names : List ℕ) → AllNumbersInBounds names (rows_of table) → RowNumbersInBounds names r
  row_in_bounds names a = rw e (all_at (RowNumbersInBounds names) table i a.row l)

  pub row_known_kind : (names : List ℕ) → AllNumbersInBounds names (rows_of table) → KnownKind r
  row_known_kind names a = rw e (all_at KnownKind table i a.kind l)

  pub row_refs_in_bounds : (refs : List ℕ) → AllRefsInBounds refs (rows_of table) → RefsInBounds refs r
  row_refs_in_bounds refs a = rw e (all_at (RefsInBounds refs) table i a.span l)

  -- If no class row is missing, that of r is not.
  pub row_has_class : first_row (class_missing (rows_of table)) (rows_of table) ≡ None → class_missing (rows_of table) r ≡ false
  row_has_class f = by (class_missing (rows_of table) r) refl
    where
      by : (b : Bool) → class_missing (rows_of table) r ≡ b → b ≡ false
      by true p =
          absurd ((first_row_none (λ r. class_missing (rows_of table) r ≡ true) _ (λ r. (λ t. t, λ t. t)) (rows_of table)).0 f i (rw (length_rows table) l) (rw (nth_row table i l, ← e) p))
      by false p = refl

-- ---- the rest of the text, row by row

module _ (bits : ℕ) (names refs table : List ℕ) where
  -- The rest of the text from row i on is row i's lines and the rest from row i + 1 on.
  pub text_left_next : (i : ℕ) → i < row_count table → text_left bits names refs table i ≡ row_text bits names refs (rows_of table) (row_at table i) ++ text_left bits names refs table (i + 1)
  unfolding text_left
  text_left_next i l = rw (rows_left_next table i l, unlines_row_cons)

  -- After the last row the rest is empty.
  pub text_left_none : (i : ℕ) → row_count table ≤ i → text_left bits names refs table i ≡ []
  unfolding text_left row_lines unlines
  text_left_none i l = rw (rows_left_none table i l)

  -- From row 0 on it is the lines of all rows.
  pub text_left_all : text_left bits names refs table 0 ≡ rows_text bits names refs (rows_of table)
  unfolding text_left rows_text
  text_left_all = refl

module _ (bits : ℕ) (names table : List ℕ) where
  -- The size of the rest of the text, from row i on.
  abbrev size_left : ℕ → ℕ
  size_left = sum_left (row_size bits names (rows_of table)) table

  -- ---- the loop that sizes the rows, after a version line of `version_size` bytes

  -- Its invariant: the total and the size of the rest give the size of all, which is below 2^63; no class row is missing before
  -- row i.
  pub record SizeLoop (version_size i total : ℕ) : Type 0 where
    pub sum : total + size_left i ≡ version_size + rows_size bits names (rows_of table)
    pub small : version_size + rows_size bits names (rows_of table) < 2 ^ 63
    pub no_class_missing : SearchInvariant (class_missing (rows_of table)) table i

  -- It holds at the start.
  pub size_loop_start : (version_size : ℕ) → version_size + rows_size bits names (rows_of table) < 2 ^ 63 → SizeLoop version_size 0 version_size
  unfolding rows_size
  size_loop_start version_size l = record { sum = refl; small = l; no_class_missing = search_start _ _ }

  -- The result that the contract requires.
  abbrev size_loop_answer : ℕ → Result TextSize Refusal
  size_loop_answer version_size = size_or_missing (first_row (class_missing (rows_of table)) (rows_of table)) (version_size + rows_size bits names (rows_of table)) (tally_of (rows_of table))

  -- After the last row, the total and the tally of all rows are the required result.
  pub size_loop_end : (version_size i total : ℕ) (t : Tally) → SizeLoop version_size i total → t ≡ tally_of (rows_of table) → row_count table ≤ i → Ok (record { bytes = total; tally = t }) ≡ size_loop_answer version_size
  unfolding rows_size
  size_loop_end version_size i total t z q l =
      let n = sum_left_none (row_size bits names (rows_of table)) table i l in
      let s = z.sum in
      let e : total ≡ version_size + rows_size bits names (rows_of table) = omega arith in
      rw (e, q, ← search_done _ _ _ z.no_class_missing l)

  -- If the class row of row i, which is r, is missing, the refusal at index i is the required result.
  pub size_loop_refuses : (version_size i total : ℕ) (r : Row) → SizeLoop version_size i total → i < row_count table → r ≡ row_at table i → class_missing (rows_of table) r ≡ true
      → Err (ClassMissing i) ≡ size_loop_answer version_size
  size_loop_refuses version_size i total r z l e t = rw (← search_found _ _ _ r z.no_class_missing l e t)

  -- Let row i be r, and s the size of its lines.
  module _ (version_size i total s : ℕ) (r : Row) (z : SizeLoop version_size i total) (l : i < row_count table) (e : r ≡ row_at table i) (f : s ≡ row_size bits names (rows_of table) r) where
    size_loop_sum : total + s + size_left (i + 1) ≡ version_size + rows_size bits names (rows_of table)
    size_loop_sum =
        let n = sum_left_next (row_size bits names (rows_of table)) table i l in
        let g : s ≡ row_size bits names (rows_of table) (row_at table i) = rw e at f in
        let t = z.sum in
        omega arith

    -- The total with s stays below 2^63, so the addition does not overflow.
    pub size_loop_bound : total + s < 2 ^ 63
    size_loop_bound =
        let m = size_loop_sum in
        let t = z.small in
        omega arith

    -- If the class row of r is not missing, the invariant holds for the next row.
    pub size_loop_step : class_missing (rows_of table) r ≡ false → SizeLoop version_size (i + 1) (total + s)
    size_loop_step t = record { sum = size_loop_sum; small = z.small; no_class_missing = search_next _ _ _ _ z.no_class_missing l e t }

-- ---- the loop that encodes the rows

module _ (bits : ℕ) (names refs table : List ℕ) (first : Encoder) where
  -- Its invariant, from a state `first` of the encoder on: the rest of the text remains to be encoded; there was room for the lines of
  -- all rows.
  pub record WriteLoop (i : ℕ) (now : Encoder) : Type 0 where
    pub rest : Remains first now (rows_text bits names refs (rows_of table)) (text_left bits names refs table i)
    pub room : HasRoom first (rows_text bits names refs (rows_of table))

  -- It holds at the start.
  pub write_loop_start : HasRoom first (rows_text bits names refs (rows_of table)) → WriteLoop 0 first
  write_loop_start l = record { rest = rw text_left_all (remains_start first _); room = l }

  -- After the last row, all lines are encoded.
  pub write_loop_end : (i : ℕ) (now : Encoder) → WriteLoop i now → row_count table ≤ i → Wrote first now (rows_text bits names refs (rows_of table))
  write_loop_end i now z l = remains_done (rw (text_left_none bits names refs table i l) at z.rest)

  -- Let row i be r.
  module _ (i : ℕ) (now : Encoder) (r : Row) (z : WriteLoop i now) (l : i < row_count table) (e : r ≡ row_at table i) where
    progress_split : Remains first now (rows_text bits names refs (rows_of table)) (row_text bits names refs (rows_of table) r ++ text_left bits names refs table (i + 1))
    progress_split = rw e (rw (text_left_next bits names refs table i l) at z.rest)

    -- There is room for its lines.
    pub write_loop_room : HasRoom now (row_text bits names refs (rows_of table) r)
    write_loop_room =
        let p = rw length-append at progress_split.place in
        let s = progress_split.long in
        let m = z.room in
        omega arith

    -- After its lines are encoded, the invariant holds for the next row.
    pub write_loop_step : (next : Encoder) → Wrote now next (row_text bits names refs (rows_of table) r) → WriteLoop (i + 1) next
    write_loop_step next w = record { rest = remains_next _ progress_split w; room = z.room }

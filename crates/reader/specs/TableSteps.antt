-- Steps of a reading over the caller's tables, for any format: the rows and references stored so far are the first ones of the
-- tables. For the proofs of the functions that read: `CursorInBounds`, `StepContinues`, `StepEnds` and `LoopInvariant` state what
-- they do; the laws after them, and those in proofs/TableSteps.antt, prove that the loop over steps gives the result of the reading.
-- Assumes nothing.
use Rattle.std.specs.Prelude.{◌≡◌, refl, List, ◌++◌, ℕ, suc, ◌+◌, ◌-◌, ◌*◌, ◌/◌, ◌≤◌, take, drop, Ok, Err, Result as StepResult}
use Rattle.std.proofs.Common.{sym, ap, ◌∙◌, length-append, take-append-drop, take_at, drop_at, drop-drop}
use native.Mathlib.Omega.{arith}
use Rattle.std.proofs.Math.ListN.{length}
use Rattle.std.proofs.lemmas.List.Edits.{sets, sets-eq}
use Rattle.std.proofs.Math.Seq.{length-take-le}
use Rattle.table.specs.Buffer.{overwrite}
use Rattle.table.specs.Table.{row_width, row_count}
use Rattle.reader.specs.Reader.{limit, capacity, Format, State, Result, go, halt, ended, step, records, initial_state}
use Rattle.reader.specs.declared.End.{End}
use Rattle.reader.specs.Steps.{Lawful, records_halt}

-- A cursor, between records: the offset of the next one, the context, and how many rows and references are stored.
pub record CursorOf (D : Format) : Type 0 where
  pub at : ℕ
  pub context : D.Context
  pub rows : ℕ
  pub refs : ℕ

-- The state at a cursor, over the tables.
abbrev pub state_of : {D : Format} → CursorOf D → List ℕ → List ℕ → State D
state_of k rows refs =
    record { at = k.at; context = k.context; rows = take (k.rows * row_width) rows; refs = take k.refs refs }

-- The offset of a cursor lies within the dump, and what it counts within the tables.
pub record CursorInBounds {D : Format} (s rows refs : List ℕ) (k : CursorOf D) : Type 0 where
  pub at_in : k.at ≤ length s
  pub rows_in : k.rows * row_width ≤ length rows
  pub refs_in : k.refs ≤ length refs

-- A step stored a record: from k and the tables rows and refs it went to k', rows' and refs'. The tables' rest is unchanged.
pub record StepContinues (D : Format) (h : D.Header) (s : List ℕ) (k : CursorOf D) (rows refs rows' refs' : List ℕ) (k' : CursorOf D) : Type 0 where
  pub steps : step D h s (capacity (length rows) (length refs)) (state_of k rows refs) ≡ go (state_of k' rows' refs')
  pub rows_unchanged : drop (k'.rows * row_width) rows' ≡ drop (k'.rows * row_width) rows
  pub refs_unchanged : drop k'.refs refs' ≡ drop k'.refs refs
  pub rows_le : k.rows ≤ k'.rows
  pub refs_le : k.refs ≤ k'.refs
  pub rows_length : length rows' ≡ length rows
  pub refs_length : length refs' ≡ length refs
  pub fits : CursorInBounds s rows' refs' k'

-- A step ended the reading; the cursor and the tables are unchanged.
pub record StepEnds (D : Format) (h : D.Header) (s : List ℕ) (k : CursorOf D) (rows refs rows' refs' : List ℕ) (k' : CursorOf D) (reply place missing : ℕ) : Type 0 where
  pub steps : step D h s (capacity (length rows) (length refs)) (state_of k rows refs) ≡ halt (ended h (state_of k rows refs) reply place missing)
  pub cursor_same : k' ≡ k
  pub rows_same : rows' ≡ rows
  pub refs_same : refs' ≡ refs

-- The contract of a step, by its result.
abbrev pub StepContract : (D : Format) → D.Header → List ℕ → CursorOf D → (rows refs rows' refs' : List ℕ) → CursorOf D → StepResult (Unit {0}) End → Type 0
StepContract D h s k rows refs rows' refs' k' (Ok _) = StepContinues D h s k rows refs rows' refs' k'
StepContract D h s k rows refs rows' refs' k' (Err e) = StepEnds D h s k rows refs rows' refs' k' e.reply e.place e.missing

-- The invariant between two steps of a reading that began at offset `at` with the tables rows₀ and refs₀: reading from the cursor
-- on gives the result of the whole.
pub record LoopInvariant (D : Format) (h : D.Header) (s : List ℕ) (at : ℕ) (rows₀ refs₀ rows refs : List ℕ) (k : CursorOf D) : Type 0 where
  pub fits : CursorInBounds s rows refs k
  pub rows_length : length rows ≡ length rows₀
  pub refs_length : length refs ≡ length refs₀
  pub rows_unchanged : drop (k.rows * row_width) rows ≡ drop (k.rows * row_width) rows₀
  pub refs_unchanged : drop k.refs refs ≡ drop k.refs refs₀
  pub left : records D (suc limit) h s (capacity (length rows₀) (length refs₀)) (state_of k rows refs)
      ≡ records D (suc limit) h s (capacity (length rows₀) (length refs₀)) (initial_state D (D.start h) at)

-- ---- storing a list in a table

-- The list vs is stored at index i of l and ends before index n.
module _ (l vs : List ℕ) (i n : ℕ) (capacity : i + length vs ≤ length l) (is : n ≡ i + length vs) where
  length_take_append : length (take i l ++ vs) ≡ n
  length_take_append = rw (length-append, length-take-le i l (omega arith)) (omega arith)

  -- Up to its end, the table has what was before i, and then vs.
  pub take_sets : take n (sets l i vs) ≡ take i l ++ vs
  take_sets = rw (sets-eq vs l i capacity) (take_at (take i l ++ vs) _ n length_take_append)

  -- After its end, the table is unchanged.
  pub drop_sets : drop n (sets l i vs) ≡ drop n l
  drop_sets = rw (sets-eq vs l i capacity, drop_at (take i l ++ vs) _ n length_take_append, is)

-- A table that is unchanged from index n on is the old one with its first n numbers stored at the start.
overwrite_take : (table table₀ : List ℕ) (n : ℕ) → n ≤ length table → drop n table ≡ drop n table₀ → overwrite table₀ (take n table) ≡ table
unfolding overwrite
overwrite_take table table₀ n h e = rw (length-take-le n table h, ← e) (take-append-drop n table)

-- Lists that agree from index i on agree from a later index j on.
pub drop_later : (l m : List ℕ) (i j : ℕ) → i ≤ j → drop i l ≡ drop i m → drop j l ≡ drop j m
drop_later l m i j h e =
    let p : i + (j - i) ≡ j = omega arith in
    ap (λ (n : ℕ). drop n l) (sym p) ∙ sym (drop-drop (j - i) i l) ∙ ap (drop (j - i)) e ∙ drop-drop (j - i) i m ∙ ap (λ (n : ℕ). drop n m) p

-- ---- the loop over steps

module _ (D : Format) (lawful : Lawful D) {h : D.Header} {s : List ℕ} {at : ℕ} where
  -- The invariant holds before the first record.
  pub invariant_start : (rows refs : List ℕ) → at ≤ length s
      → LoopInvariant D h s at rows refs rows refs (record { at = at; context = D.start h; rows = 0; refs = 0 })
  unfolding initial_state
  invariant_start rows refs l = record {
    fits = record { at_in = l; rows_in = omega arith; refs_in = omega arith };
    rows_length = refl;
    refs_length = refl;
    rows_unchanged = refl;
    refs_unchanged = refl;
    left = refl;
  }

  module _ {rows₀ refs₀ rows refs rows' refs' : List ℕ} {k k' : CursorOf D} (w : LoopInvariant D h s at rows₀ refs₀ rows refs k) where
    -- The result of the whole reading, if a step ended it.
    module _ {reply place missing : ℕ} (g : StepEnds D h s k rows refs rows' refs' k' reply place missing) where
      abbrev result : Result D
      result = records D (suc limit) h s (capacity (length rows₀) (length refs₀)) (initial_state D (D.start h) at)

      step_halts : step D h s (capacity (length rows₀) (length refs₀)) (state_of k rows refs) ≡ halt (ended h (state_of k rows refs) reply place missing)
      step_halts = rw (← w.rows_length, ← w.refs_length) g.steps

      -- The result is that of a reading that ends at the cursor.
      pub invariant_end : result ≡ ended h (state_of k rows refs) reply place missing
      invariant_end = sym w.left ∙ records_halt D limit h s (capacity (length rows₀) (length refs₀)) (state_of k rows refs) _ step_halts

      -- The cursor counts the rows and references that the result has.
      pub end_row_count : k'.rows ≡ row_count result.rows
      unfolding ended row_count
      end_row_count =
          let l : length (take (k.rows * row_width) rows) ≡ k.rows * row_width = length-take-le (k.rows * row_width) rows w.fits.rows_in in
          let e : k.rows ≡ length (take (k.rows * row_width) rows) / row_width = omega arith in
          rw (invariant_end, g.cursor_same) e

      pub end_ref_count : k'.refs ≡ length result.refs
      unfolding ended
      end_ref_count = rw (invariant_end, g.cursor_same) (sym (length-take-le k.refs refs w.fits.refs_in))

      -- The tables are those at the start, with the result's rows and references stored at their beginning.
      pub end_rows : rows' ≡ overwrite rows₀ result.rows
      unfolding ended
      end_rows = rw (invariant_end, g.rows_same) (sym (overwrite_take rows rows₀ (k.rows * row_width) w.fits.rows_in w.rows_unchanged))

      pub end_refs : refs' ≡ overwrite refs₀ result.refs
      unfolding ended
      end_refs = rw (invariant_end, g.refs_same) (sym (overwrite_take refs refs₀ k.refs w.fits.refs_in w.refs_unchanged))

-- One step of a reading over the caller's tables, by the outcome at a cursor, and the loop over steps, for any format.
-- Assumes nothing.
use Rattle.std.specs.Prelude.{◌≡◌, refl, List, ℕ, ◌+◌, ◌*◌, ◌≤◌, ◌<◌, take}
use Rattle.std.proofs.Common.{sym, ◌∙◌}
use native.Mathlib.Omega.{arith}
use Rattle.std.proofs.Math.ListN.{length}
use Rattle.std.proofs.lemmas.List.Edits.{sets}
use Rattle.std.proofs.Math.Seq.{length-take-le, length-sets}
use Rattle.decode.specs.Layout.{Outcome, whole, stops, run, reply_of, missing_of}
use Rattle.decode.specs.declared.Stop.{Stop}
use Rattle.table.specs.Table.{row_width}
use Rattle.reader.specs.Reader.{limit, capacity, end_item, item, Format, ItemOf, go, halt, ended, next_item, step}
use Rattle.reader.specs.Steps.{Lawful, Advances, step_end, step_stop, step_item, step_no_row}
use Rattle.reader.proofs.Steps.{records_step, step_advances, step_no_refs}
use Rattle.reader.specs.TableSteps.{CursorOf, state_of, CursorInBounds, StepContinues, StepEnds, LoopInvariant, take_sets, drop_sets, drop_later}

-- ---- one step, by the outcome at a cursor

module _ (D : Format) (lawful : Lawful D) (h : D.Header) {s rows refs : List ℕ} {k : CursorOf D} (fits : CursorInBounds s rows refs k) where
  -- The outcome of reading a record at the cursor.
  abbrev item_at_cursor : Outcome (ItemOf D)
  item_at_cursor = run (D.entry h k.context k.refs) s k.at

  length_refs_taken : length (take k.refs refs) ≡ k.refs
  length_refs_taken = length-take-le k.refs refs fits.refs_in

  length_rows_taken : length (take (k.rows * row_width) rows) ≡ k.rows * row_width
  length_rows_taken = length-take-le (k.rows * row_width) rows fits.rows_in

  next_item_at : next_item D h s (state_of k rows refs) ≡ item_at_cursor
  next_item_at = rw length_refs_taken

  step_ends : {reply place missing : ℕ} → step D h s (capacity (length rows) (length refs)) (state_of k rows refs) ≡ halt (ended h (state_of k rows refs) reply place missing)
      → StepEnds D h s k rows refs rows refs k reply place missing
  step_ends e = record { steps = e; cursor_same = refl; rows_same = refl; refs_same = refl }

  -- At the end, the step ends the reading with reply 0.
  pub step_ends_end : (n : ℕ) → item_at_cursor ≡ whole end_item n → StepEnds D h s k rows refs rows refs k 0 n 0
  step_ends_end n e = step_ends (step_end D h s (capacity (length rows) (length refs)) (state_of k rows refs) n (next_item_at ∙ e))

  -- Where the layout stops, the step ends the reading with that reply, at the cursor's offset.
  pub step_ends_stop : (w : Stop) → item_at_cursor ≡ stops w → StepEnds D h s k rows refs rows refs k (reply_of w) k.at (missing_of w)
  step_ends_stop w e = step_ends (step_stop D h s (capacity (length rows) (length refs)) (state_of k rows refs) w (next_item_at ∙ e))

  -- A record was found; it ends before offset n.
  module _ {r rs : List ℕ} {m : D.Note} {c : D.Context} {n : ℕ} (is : item_at_cursor ≡ whole (item r rs m c) n) where
    -- If there is no capacity for its row, the reply is 13.
    pub step_ends_rows : length rows < k.rows * row_width + length r → StepEnds D h s k rows refs rows refs k 13 k.at 0
    step_ends_rows l = step_ends (step_no_row D h s (capacity (length rows) (length refs)) (state_of k rows refs) r rs m c n (next_item_at ∙ is) (rw length_rows_taken l))

    -- If its row fits and its references do not, the reply is 14.
    pub step_ends_refs : k.rows * row_width + length r ≤ length rows → length refs < k.refs + length rs
        → StepEnds D h s k rows refs rows refs k 14 k.at 0
    step_ends_refs l q = step_ends (step_no_refs D h s (capacity (length rows) (length refs)) (state_of k rows refs) r rs m c n (next_item_at ∙ is) (rw length_rows_taken l) (rw length_refs_taken q))

    -- The record fits and is stored; the tables then have i rows and j references.
    module _ (i j : ℕ) (row_on : i * row_width ≡ k.rows * row_width + length r) (refs_on : j ≡ k.refs + length rs)
        (l : k.rows * row_width + length r ≤ length rows) (q : k.refs + length rs ≤ length refs) where
      abbrev rows_after : List ℕ
      rows_after = sets rows (k.rows * row_width) r

      abbrev refs_after : List ℕ
      refs_after = sets refs k.refs rs

      pub step_continues : StepContinues D h s k rows refs rows_after refs_after (record { at = n; context = c; rows = i; refs = j })
      step_continues = record {
        steps = rw (take_sets rows r (k.rows * row_width) (i * row_width) l row_on, take_sets refs rs k.refs j q refs_on)
            (step_item D h s (capacity (length rows) (length refs)) (state_of k rows refs) r rs m c n (next_item_at ∙ is) (rw length_rows_taken l) (rw length_refs_taken q));
        rows_unchanged = drop_sets rows r (k.rows * row_width) (i * row_width) l row_on;
        refs_unchanged = drop_sets refs rs k.refs j q refs_on;
        rows_le = omega arith;
        refs_le = omega arith;
        rows_length = length-sets rows (k.rows * row_width) r;
        refs_length = length-sets refs k.refs rs;
        fits = record {
          at_in = (lawful.advances h k.context k.refs s k.at _ n is).1;
          rows_in = rw length-sets (omega arith);
          refs_in = rw length-sets (omega arith);
        };
      }

-- ---- the loop over steps

module _ (D : Format) (lawful : Lawful D) {h : D.Header} {s : List ℕ} {at : ℕ} where
  module _ {rows₀ refs₀ rows refs rows' refs' : List ℕ} {k k' : CursorOf D} (w : LoopInvariant D h s at rows₀ refs₀ rows refs k) where
    -- The same step, with the capacity of the tables at the start.
    step_from_start : StepContinues D h s k rows refs rows' refs' k' → step D h s (capacity (length rows₀) (length refs₀)) (state_of k rows refs) ≡ go (state_of k' rows' refs')
    step_from_start g = rw (← w.rows_length, ← w.refs_length) g.steps

    -- A step that stores a record moves the cursor forward.
    pub step_further : StepContinues D h s k rows refs rows' refs' k' → k.at < k'.at
    step_further g =
        let o : Advances (state_of k rows refs) s (go (state_of k' rows' refs')) =
        rw g.steps at (step_advances D lawful h s (capacity (length rows) (length refs)) (state_of k rows refs)) in
        o.0

    -- A step that stores a record preserves the invariant.
    pub invariant_next : length s ≤ limit → StepContinues D h s k rows refs rows' refs' k' → LoopInvariant D h s at rows₀ refs₀ rows' refs' k'
    invariant_next l g =
        let r = g.rows_le in
        record {
          fits = g.fits;
          rows_length = g.rows_length ∙ w.rows_length;
          refs_length = g.refs_length ∙ w.refs_length;
          rows_unchanged = g.rows_unchanged ∙ drop_later rows rows₀ (k.rows * row_width) (k'.rows * row_width) (omega arith) w.rows_unchanged;
          refs_unchanged = g.refs_unchanged ∙ drop_later refs refs₀ k.refs k'.refs g.refs_le w.refs_unchanged;
          left = sym (records_step D lawful h s (capacity (length rows₀) (length refs₀)) (state_of k rows refs) (state_of k' rows' refs') l (step_from_start g)) ∙ w.left;
        }

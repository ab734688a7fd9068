-- One step of a reading over the caller's tables is several steps, for any format.
-- Assumes nothing.
use Rattle.std.specs.Prelude.{◌≡◌, List, [], ◌++◌, ℕ, ◌+◌, ◌*◌, ◌≤◌, ◌<◌, length, take}
use Rattle.std.proofs.Common.{sym, ap, ◌∙◌, inr, append-nil, arith, length-append, length-take-le, take-take}
use Rattle.std.proofs.lemmas.List.{take-append-le}
use Rattle.table.specs.Table.{row_width}
use Rattle.reader.specs.Reader.{limit, Capacity, capacity, Format, State, Result, Transition, go, halt, step}
use Rattle.reader.specs.Steps.{Lawful, ValidRow, empty_row, full_row}
use Rattle.reader.proofs.Steps.{step_cases, records_step}
use Rattle.reader.specs.TableSteps.{CursorOf, state_of, CursorInBounds, StepContinues}
use Rattle.reader.specs.ManySteps.{StoredItem, step_any_capacity, ManySteps}

-- The state that a step goes on with.
abbrev next_state : {D : Format} → State D → Transition D → State D
next_state st (go st') = st'
next_state st (halt r) = st

abbrev goes : {D : Format} → Transition D → ℕ
goes (go st') = 1
goes (halt r) = 0

module _ (D : Format) (h : D.Header) (s : List ℕ) (A : Capacity) (st : State D) where
  no_halt : {r : Result D} (st' : State D) → ◌≡◌ {A = Transition D} (halt r) (go st') → ⊥
  no_halt st' e = let z : ◌≡◌ {A = ℕ} 0 1 = ap goes e in omega arith

  -- A step that goes on read a record and stored it.
  pub step_stored : (st' : State D) → step D h s A st ≡ go st' → StoredItem D h s st st'
  step_stored =
      step_cases D (λ t. (st' : State D) → t ≡ go st' → StoredItem D h s st st') h s A st
      (λ n e st' q. absurd (no_halt st' q))
      (λ r rs m c n e p q st' o. record { row = r; refs = rs; note = m; context = c; end = n; is = e; next = ap (next_state st) (sym o) })
      (λ st' q. absurd (no_halt st' q)) (λ st' q. absurd (no_halt st' q)) (λ w e st' q. absurd (no_halt st' q))

module _ (D : Format) (lawful : Lawful D) (h : D.Header) (s : List ℕ) where
  module _ {k : CursorOf D} {rows refs rows' refs' : List ℕ} {k' : CursorOf D} (c : CursorInBounds s rows refs k) (g : StepContinues D h s k rows refs rows' refs' k') where
    stored : StoredItem D h s (state_of k rows refs) (state_of k' rows' refs')
    stored = step_stored D h s (capacity (length rows) (length refs)) (state_of k rows refs) (state_of k' rows' refs') g.steps

    taken_rows : take (k'.rows * row_width) rows' ≡ take (k.rows * row_width) rows ++ stored.row
    taken_rows = ap (λ (st : State D). st.rows) stored.next

    row_valid : ValidRow k.at stored.row
    row_valid = lawful.row h k.context (length (take k.refs refs)) s k.at stored.row stored.refs stored.note stored.context stored.end stored.is

    -- A step adds at most one row.
    pub step_one_row : k'.rows ≤ k.rows + 1
    step_one_row =
        let a : length (take (k'.rows * row_width) rows') ≡ k'.rows * row_width = length-take-le (k'.rows * row_width) rows' g.fits.rows_in in
        let b : length (take (k.rows * row_width) rows) ≡ k.rows * row_width = length-take-le (k.rows * row_width) rows c.rows_in in
        let e : k'.rows * row_width ≡ k.rows * row_width + length stored.row = sym a ∙ (ap length taken_rows ∙ (length-append (take (k.rows * row_width) rows) stored.row ∙ rw b)) in
        by row_valid e
      where
        by : {r : List ℕ} → ValidRow k.at r → k'.rows * row_width ≡ k.rows * row_width + length r → k'.rows ≤ k.rows + 1
        by (empty_row z) e = omega arith
        by (full_row z o) e = omega arith

    rows_first : take (k.rows * row_width) rows' ≡ take (k.rows * row_width) rows
    rows_first =
        let l : k.rows * row_width ≤ k'.rows * row_width = let m = g.rows_le in omega arith in
        let b : length (take (k.rows * row_width) rows) ≡ k.rows * row_width = length-take-le (k.rows * row_width) rows c.rows_in in
        sym (take-take (k.rows * row_width) (k'.rows * row_width) rows' l)
        ∙ (ap (take (k.rows * row_width)) taken_rows
        ∙ (take-append-le (k.rows * row_width) (take (k.rows * row_width) rows) stored.row (omega arith)
        ∙ take-take (k.rows * row_width) (k.rows * row_width) rows (omega arith)))

    -- A step moves the cursor forward.
    pub step_at : k.at < k'.at
    step_at =
        let e : k'.at ≡ stored.end = ap (λ (st : State D). st.at) stored.next in
        let a = lawful.advances h k.context (length (take k.refs refs)) s k.at _ stored.end stored.is in
        omega (arith, a.0)

    -- One step.
    pub one_step : length s ≤ limit → ManySteps D h s k rows refs rows' refs' k'
    one_step l = record {
      left = λ A p q.
          let a : length (take (k'.rows * row_width) rows') ≡ k'.rows * row_width = length-take-le (k'.rows * row_width) rows' g.fits.rows_in in
          let b : length (take k'.refs refs') ≡ k'.refs = length-take-le k'.refs refs' g.fits.refs_in in
          records_step D lawful h s A (state_of k rows refs) (state_of k' rows' refs') l
          (step_any_capacity D h s (capacity (length rows) (length refs)) (state_of k rows refs) (state_of k' rows' refs') stored A (rw a p) (rw b q));
      rows_kept = rows_first;
      rows_unchanged = g.rows_unchanged;
      refs_unchanged = g.refs_unchanged;
      rows_le = g.rows_le;
      refs_le = g.refs_le;
      rows_length = g.rows_length;
      refs_length = g.refs_length;
      forward = let m = step_at in let n = step_one_row in omega arith;
      fits = g.fits;
      begins = inr (record {
        next = state_of k' rows' refs';
        item = stored;
        rows_fit =
            let a = length-take-le (k'.rows * row_width) rows' g.fits.rows_in in
            let i = g.fits.rows_in in
            let e = g.rows_length in
            omega arith;
        refs_fit =
            let a = length-take-le k'.refs refs' g.fits.refs_in in
            let i = g.fits.refs_in in
            let e = g.refs_length in
            omega arith;
        rows_first = record { more = []; all = append-nil (take (k'.rows * row_width) rows') };
      });
    }

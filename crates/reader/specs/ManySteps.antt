-- Several steps of a reading over the caller's tables, for any format: they lead from one cursor to another, whatever the capacity, as
-- long as what they store fits. For the proofs of functions that read up to a number of rows. One step: proofs/ManySteps.antt.
-- Assumes nothing.
use Rattle.std.specs.Prelude.{◌≡◌, refl, ◌⊎◌, List, ℕ, suc, ◌+◌, ◌-◌, ◌*◌, ◌≤◌, length, take, drop}
use Rattle.std.proofs.Common.{sym, ap, ◌∙◌, inl, inr, arith, length-append, take-append-drop, take-take}
use Rattle.decode.specs.Layout.{whole}
use Rattle.table.specs.Table.{row_width}
use Rattle.reader.specs.Reader.{limit, Capacity, item, Format, State, go, append_item, next_item, step, records}
use Rattle.reader.specs.Steps.{Lawful, step_item}
use Rattle.reader.specs.Prefixes.{Prefix, prefix_append}
use Rattle.reader.specs.TableSteps.{CursorOf, state_of, CursorInBounds, drop_later}

-- A step from st to st' read a record and appended its row and its references.
pub record StoredItem (D : Format) (h : D.Header) (s : List ℕ) (st st' : State D) : Type 0 where
  pub row : List ℕ
  pub refs : List ℕ
  pub note : D.Note
  pub context : D.Context
  pub end : ℕ
  pub is : next_item D h s st ≡ whole (item row refs note context) end
  pub next : st' ≡ append_item st row refs context end

module _ (D : Format) (h : D.Header) (s : List ℕ) (A : Capacity) (st : State D) where
  -- It goes on in the same way with any capacity for what is stored then.
  pub step_any_capacity : (st' : State D) → StoredItem D h s st st' → (A' : Capacity) → length st'.rows ≤ A'.rows → length st'.refs ≤ A'.refs → step D h s A' st ≡ go st'
  step_any_capacity st' i A' p q =
      rw i.next (step_item D h s A' st i.row i.refs i.note i.context i.end i.is
      (rw (length-append st.rows i.row) at (rw i.next at p)) (rw (length-append st.refs i.refs) at (rw i.next at q)))

-- The first of the steps from k: it read a record, whose row comes after the rows before it in the table at the end.
pub record FirstStep (D : Format) (h : D.Header) (s : List ℕ) (k : CursorOf D) (rows refs rows' : List ℕ) (k' : CursorOf D) : Type 0 where
  pub next : State D
  pub item : StoredItem D h s (state_of k rows refs) next
  pub rows_fit : length next.rows ≤ length rows
  pub refs_fit : length next.refs ≤ length refs
  pub rows_first : Prefix next.rows (take (k'.rows * row_width) rows')

-- No step was made.
pub record NoStep {D : Format} (k : CursorOf D) (rows refs rows' refs' : List ℕ) (k' : CursorOf D) : Type 0 where
  pub same_cursor : k' ≡ k
  pub same_rows : rows' ≡ rows
  pub same_refs : refs' ≡ refs

-- Steps led from the cursor k and the tables rows and refs to k', rows' and refs'.
pub record ManySteps (D : Format) (h : D.Header) (s : List ℕ) (k : CursorOf D) (rows refs rows' refs' : List ℕ) (k' : CursorOf D) : Type 0 where
  pub left : (A : Capacity) → k'.rows * row_width ≤ A.rows → k'.refs ≤ A.refs
      → records D (suc limit) h s A (state_of k rows refs) ≡ records D (suc limit) h s A (state_of k' rows' refs')
  pub rows_kept : take (k.rows * row_width) rows' ≡ take (k.rows * row_width) rows
  pub rows_unchanged : drop (k'.rows * row_width) rows' ≡ drop (k'.rows * row_width) rows
  pub refs_unchanged : drop k'.refs refs' ≡ drop k'.refs refs
  pub rows_le : k.rows ≤ k'.rows
  pub refs_le : k.refs ≤ k'.refs
  pub rows_length : length rows' ≡ length rows
  pub refs_length : length refs' ≡ length refs
  pub forward : k.at + (k'.rows - k.rows) ≤ k'.at
  pub fits : CursorInBounds s rows' refs' k'
  pub begins : NoStep k rows refs rows' refs' k' ⊎ FirstStep D h s k rows refs rows' k'

module _ (D : Format) (lawful : Lawful D) (h : D.Header) (s : List ℕ) where
  -- No step.
  pub no_steps : {k : CursorOf D} {rows refs : List ℕ} → CursorInBounds s rows refs k → ManySteps D h s k rows refs rows refs k
  no_steps f = record {
    left = λ A p q. refl;
    rows_kept = refl;
    rows_unchanged = refl;
    refs_unchanged = refl;
    rows_le = omega arith;
    refs_le = omega arith;
    rows_length = refl;
    refs_length = refl;
    forward = omega arith;
    fits = f;
    begins = inl (record { same_cursor = refl; same_rows = refl; same_refs = refl });
  }

  -- Steps after steps.
  pub more_steps : {k : CursorOf D} {rows refs rows' refs' : List ℕ} {k' : CursorOf D} {rows'' refs'' : List ℕ} {k'' : CursorOf D}
      → ManySteps D h s k rows refs rows' refs' k' → ManySteps D h s k' rows' refs' rows'' refs'' k'' → ManySteps D h s k rows refs rows'' refs'' k''
  more_steps {k} {rows} {refs} {rows'} {refs'} {k'} {rows''} {refs''} {k''} a b =
      let r = a.rows_le in
      let r' = b.rows_le in
      let f = a.refs_le in
      let f' = b.refs_le in
      let t = a.forward in
      let t' = b.forward in
      record {
        left = λ A p q. a.left A (omega arith) (omega arith) ∙ b.left A p q;
        rows_kept =
            let l : k.rows * row_width ≤ k'.rows * row_width = omega arith in
            sym (take-take (k.rows * row_width) (k'.rows * row_width) rows'' l) ∙ (ap (take (k.rows * row_width)) b.rows_kept ∙ (take-take (k.rows * row_width) (k'.rows * row_width) rows' l ∙ a.rows_kept));
        rows_unchanged = b.rows_unchanged ∙ drop_later rows' rows (k'.rows * row_width) (k''.rows * row_width) (omega arith) a.rows_unchanged;
        refs_unchanged = b.refs_unchanged ∙ drop_later refs' refs k'.refs k''.refs (omega arith) a.refs_unchanged;
        rows_le = omega arith;
        refs_le = omega arith;
        rows_length = b.rows_length ∙ a.rows_length;
        refs_length = b.refs_length ∙ a.refs_length;
        forward = omega arith;
        fits = b.fits;
        begins = by a.begins;
      }
    where
      later : FirstStep D h s k rows refs rows' k' → FirstStep D h s k rows refs rows'' k''
      later f =
          let r' = b.rows_le in
          let l : k'.rows * row_width ≤ k''.rows * row_width = omega arith in
          let t : take (k'.rows * row_width) rows' ≡ take (k'.rows * row_width) (take (k''.rows * row_width) rows'') = sym b.rows_kept ∙ sym (take-take (k'.rows * row_width) (k''.rows * row_width) rows'' l) in
          record {
            next = f.next;
            item = f.item;
            rows_fit = f.rows_fit;
            refs_fit = f.refs_fit;
            rows_first =
                let p : Prefix f.next.rows (take (k'.rows * row_width) (take (k''.rows * row_width) rows'')) = rw (← t) f.rows_first in
                rw (take-append-drop (k'.rows * row_width) (take (k''.rows * row_width) rows'')) at (prefix_append p (drop (k'.rows * row_width) (take (k''.rows * row_width) rows'')));
          }

      by : NoStep k rows refs rows' refs' k' ⊎ FirstStep D h s k rows refs rows' k' → NoStep k rows refs rows'' refs'' k'' ⊎ FirstStep D h s k rows refs rows'' k''
      by (inl n) = rw (n.same_cursor, n.same_rows, n.same_refs) at b.begins
      by (inr f) = inr (later f)

-- When a step ends a loop, the steps before it led to its cursor and tables, and its reply and the counts of the cursor are the answer
-- of the whole reading.
use mathlib.Core.Path.{◌≡◌, refl, sym, ap, subst, ◌∙◌}
use mathlib.Core.Logic.{inl, inr, ⊎_elim}
use mathlib.Core.List.{List}
use Prim.Native.Nat.{ℕ, suc}
use native.Mathlib.Omega.{arith}
use lib.ListN.{length}
use Rattle.phd.specs.Phd.{limit, phd, capacity, ended, records, initial_state}
use Rattle.phd.specs.declared.Header.{Header}
use Rattle.reader.specs.TableSteps.{CursorOf, invariant_end, end_row_count, end_ref_count}
use Rattle.reader.specs.Reader.{initial_state as any_initial_state}
use Rattle.reader.specs.TableSteps as AnyFormat
use Rattle.reader.specs.ManySteps as Many
use Rattle.phd_read.specs.ReadContract.{read_answer}
use Rattle.phd_read.specs.PhdLaws.{phd_lawful}
use Rattle.phd_read.specs.PhdSteps.{cursor_of, initial_cursor, StepEnds, LoopInvariant, Continued}
use Rattle.phd_read.specs.declared.records.Cursor.{Cursor}

-- The answer after a step that ends the reading is that of the definition.
pub end_answer : {h : Header} {s : List ℕ} {at : ℕ} {rows₀ refs₀ rows refs rows' refs' : List ℕ} {k k' : Cursor} {reply place missing : ℕ}
    → LoopInvariant h s at rows₀ refs₀ rows refs k → StepEnds h s k rows refs rows' refs' k' reply place missing
    → record { reply = reply; place = place; missing = missing; rows = k'.rows; refs = k'.refs; header = h }
    ≡ read_answer (records (suc limit) h s (length rows₀) (length refs₀) (initial_state at))
unfolding read_answer ended
end_answer w g = rw (end_row_count phd phd_lawful w g, end_ref_count phd phd_lawful w g, invariant_end phd phd_lawful w g)

-- A step that ends the reading leaves the cursor and the tables where the steps before it led to.
pub continued_end : {h : Header} {s : List ℕ} {k : Cursor} {rows₀ refs₀ : List ℕ} {upto : ℕ} {rows refs rows' refs' : List ℕ} {cursor cursor' : Cursor} {reply place missing : ℕ}
    → Continued h s k rows₀ refs₀ upto rows refs cursor → StepEnds h s cursor rows refs rows' refs' cursor' reply place missing
    → Continued h s k rows₀ refs₀ upto rows' refs' cursor' × StepEnds h s cursor' rows' refs' rows' refs' cursor' reply place missing
continued_end {h} {s} {k} {rows₀} {refs₀} {upto} {rows} {refs} {rows'} {refs'} {cursor} {cursor'} {reply} {place} {missing} w g =
    let c : cursor_of cursor ≡ cursor_of cursor' = sym g.cursor_same in
    let r : rows ≡ rows' = sym g.rows_same in
    let f : refs ≡ refs' = sym g.refs_same in
    let n : cursor.rows ≡ cursor'.rows = ap (λ (x : CursorOf phd). x.rows) c in (
      record {
        steps = subst (λ (x : CursorOf phd). Many.ManySteps phd h s (cursor_of k) rows₀ refs₀ rows' refs' x) c
            (subst (λ (x : List ℕ). Many.ManySteps phd h s (cursor_of k) rows₀ refs₀ x refs' (cursor_of cursor)) r
            (subst (λ (x : List ℕ). Many.ManySteps phd h s (cursor_of k) rows₀ refs₀ rows x (cursor_of cursor)) f w.steps));
        at_most = ⊎_elim (λ l. inl (omega arith)) (λ e. inr (sym n ∙ e)) w.at_most;
      },
      subst (λ (x : CursorOf phd). AnyFormat.StepEnds phd h s x rows' refs' rows' refs' x reply place missing) c
          (subst (λ (x : List ℕ). AnyFormat.StepEnds phd h s (cursor_of cursor) x refs' x refs' (cursor_of cursor) reply place missing) r
          (subst (λ (x : List ℕ). AnyFormat.StepEnds phd h s (cursor_of cursor) rows x rows x (cursor_of cursor) reply place missing) f
          (record { steps = g.steps; cursor_same = refl; rows_same = refl; refs_same = refl }))),
    )

-- Steps from the first record on keep the invariant of the whole reading.
pub many_invariant : {h : Header} {s : List ℕ} {at : ℕ} {rows₀ refs₀ rows refs : List ℕ} {k : Cursor}
    → Many.ManySteps phd h s (cursor_of (initial_cursor at)) rows₀ refs₀ rows refs (cursor_of k) → LoopInvariant h s at rows₀ refs₀ rows refs k
unfolding any_initial_state
many_invariant {h} {s} {at} {rows₀} {refs₀} {rows} {refs} {k} m = record {
  fits = m.fits;
  rows_length = m.rows_length;
  refs_length = m.refs_length;
  rows_unchanged = m.rows_unchanged;
  refs_unchanged = m.refs_unchanged;
  left = sym (m.left (capacity (length rows₀) (length refs₀)) (rw (← m.rows_length) m.fits.rows_in) (rw (← m.refs_length) m.fits.refs_in));
}

-- A step of a reading over the caller's tables: the definitions of `reader` (TableSteps) for PHD and for the `Cursor` of this
-- crate.
-- Assumes nothing.
use Rattle.std.specs.Prelude.{◌≡◌, ◌⊎◌, ℕ, ◌+◌, ◌≤◌, List, Result, Ok, Err, Some}
use Rattle.decode.specs.Layout.{whole, run}
use Rattle.decode.specs.ReadsAs.{map_outcome}
use Rattle.phd.specs.Phd.{initial_context, entry, phd}
use Rattle.phd.specs.declared.Header.{Header}
use Rattle.phd_record.specs.RecordReads.{record_of}
use Rattle.phd_record.specs.declared.Record.{Record}
use Rattle.reader.specs.TableSteps as AnyFormat
use Rattle.reader.specs.ManySteps as Many
use Rattle.phd_read.specs.declared.records.Cursor.{Cursor}
use Rattle.reader.specs.declared.End.{End}

-- The cursor as `reader` defines it.
abbrev pub cursor_of : Cursor → AnyFormat.CursorOf phd
cursor_of k = record { at = k.at; context = k.context; rows = k.rows; refs = k.refs }

-- The cursor lies within the dump, and its counts of rows and references within the tables.
abbrev pub CursorInBounds : (s rows refs : List ℕ) → Cursor → Type 0
CursorInBounds s rows refs k = AnyFormat.CursorInBounds s rows refs (cursor_of k)

-- The cursor after the record f; the next tag is at offset n.
abbrev pub advanced : Cursor → ℕ → Record → Cursor
advanced k n f = record { at = n; context = f.context; rows = k.rows + 1; refs = k.refs + f.span.count }

-- The record f is at the cursor, and n is the offset after it.
abbrev pub FoundAt : Header → List ℕ → Cursor → Record → ℕ → Type 0
FoundAt h s k f n = map_outcome record_of (run (entry h k.context.address k.context.cache k.refs) s k.at) ≡ whole (Some f) n

-- The step continues the reading: it leads from the cursor k and the tables rows and refs to k', rows' and refs'.
abbrev pub StepContinues : Header → List ℕ → Cursor → List ℕ → List ℕ → List ℕ → List ℕ → Cursor → Type 0
StepContinues h s k rows refs rows' refs' k' = AnyFormat.StepContinues phd h s (cursor_of k) rows refs rows' refs' (cursor_of k')

-- The step ends the reading with a reply, its place and the missing bytes, and changes neither the cursor nor the tables.
abbrev pub StepEnds : Header → List ℕ → Cursor → List ℕ → List ℕ → List ℕ → List ℕ → Cursor → ℕ → ℕ → ℕ → Type 0
StepEnds h s k rows refs rows' refs' k' = AnyFormat.StepEnds phd h s (cursor_of k) rows refs rows' refs' (cursor_of k')

-- The contract of a step, by its result.
abbrev pub StepContract : Header → List ℕ → Cursor → List ℕ → List ℕ → List ℕ → List ℕ → Cursor → Result (Unit {0}) End → Type 0
StepContract h s k rows refs rows' refs' k' = AnyFormat.StepContract phd h s (cursor_of k) rows refs rows' refs' (cursor_of k')

-- The invariant between two steps of a reading that began at offset `at` with the tables rows₀ and refs₀.
abbrev pub LoopInvariant : Header → List ℕ → ℕ → (rows₀ refs₀ rows refs : List ℕ) → Cursor → Type 0
LoopInvariant h s at rows₀ refs₀ rows refs k = AnyFormat.LoopInvariant phd h s at rows₀ refs₀ rows refs (cursor_of k)

-- Steps led from the cursor k and the tables rows and refs to k', rows' and refs'.
abbrev pub ManySteps : Header → List ℕ → Cursor → List ℕ → List ℕ → List ℕ → List ℕ → Cursor → Type 0
ManySteps h s k rows refs rows' refs' k' = Many.ManySteps phd h s (cursor_of k) rows refs rows' refs' (cursor_of k')

-- The contract of `read_up_to`, by its result: the steps led to k', of which the row count is at most `upto`, or unchanged; then the
-- row count is at least `upto`, or the next step ends the reading.
pub record Continued (h : Header) (s : List ℕ) (k : Cursor) (rows refs : List ℕ) (upto : ℕ) (rows' refs' : List ℕ) (k' : Cursor) : Type 0 where
  pub steps : ManySteps h s k rows refs rows' refs' k'
  pub at_most : (k'.rows ≤ upto) ⊎ (k'.rows ≡ k.rows)

abbrev pub UpToContract : Header → List ℕ → Cursor → (rows refs : List ℕ) → ℕ → (rows' refs' : List ℕ) → Cursor → Result (Unit {0}) End → Type 0
UpToContract h s k rows refs upto rows' refs' k' (Ok _) = Continued h s k rows refs upto rows' refs' k' × (upto ≤ k'.rows)
UpToContract h s k rows refs upto rows' refs' k' (Err e) =
    Continued h s k rows refs upto rows' refs' k' × StepEnds h s k' rows' refs' rows' refs' k' e.reply e.place e.missing

-- The cursor before the first record, whose tag is at offset n.
abbrev pub initial_cursor : ℕ → Cursor
initial_cursor n = record { at = n; context = initial_context; rows = 0; refs = 0 }

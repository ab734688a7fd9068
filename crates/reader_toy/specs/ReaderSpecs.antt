-- Definitions that the contracts of the functions use: the answer of `read`, and what a step does to the caller's tables.
-- A reader must believe `answer`; the rest is proved.
use Rattle.std.specs.Prelude.{ℕ, suc, ◌%◌, ◌≤◌, List, cond, length, eqb, Ok, Err, Result as StepResult}
use Rattle.table.specs.Table.{row_width, row_count}
use Rattle.reader.specs.Reader.{limit, capacity, Result, records, initial_state}
use Rattle.reader.specs.TableSteps as AnyFormat
use Rattle.reader_toy.specs.Toy.{toy}
use Rattle.reader_toy.specs.declared.ReadAnswer.{ReadAnswer}
use Rattle.reader_toy.specs.declared.Cursor.{Cursor}
use Rattle.reader.specs.declared.End.{End}

-- The answer for a result: reply, place, missing bytes, how many rows and references were stored, and the header's letter.
unfoldable pub answer : Result toy → ReadAnswer
answer r = record { reply = r.reply; place = r.place; missing = r.missing; rows = row_count r.rows; refs = length r.refs; letter = r.header }

-- The result of reading the records from offset `at` on, into the tables rows and refs.
abbrev pub records_from : ℕ → List ℕ → ℕ → List ℕ → List ℕ → Result toy
records_from letter s at rows refs = records toy (suc limit) letter s (capacity (length rows) (length refs)) (initial_state toy 0 at)

-- How many numbers the row of a record has if the record's first byte is b.
abbrev pub record_row_width : ℕ → ℕ
record_row_width b = cond (eqb (b % 2) 0) 0 row_width

-- ---- steps

-- The cursor, as a `CursorOf` of crates/reader.
abbrev pub cursor_of : Cursor → AnyFormat.CursorOf toy
cursor_of k = record { at = k.at; context = k.count; rows = k.rows; refs = k.refs }

-- The cursor lies within the dump, what it counts lies within the tables, and there were no more records than bytes.
pub record CursorValid (s rows refs : List ℕ) (k : Cursor) : Type 0 where
  pub inside : AnyFormat.CursorInBounds s rows refs (cursor_of k)
  pub few : k.count ≤ k.at

-- The contract of a step, by its result. A step that continues also preserves the bound on the number of records.
abbrev pub StepContract : ℕ → List ℕ → Cursor → List ℕ → List ℕ → List ℕ → List ℕ → Cursor → StepResult (Unit {0}) End → Type 0
StepContract letter s k rows refs rows' refs' k' (Ok u) = AnyFormat.StepContract toy letter s (cursor_of k) rows refs rows' refs' (cursor_of k') (Ok u) × (k'.count ≤ k'.at)
StepContract letter s k rows refs rows' refs' k' (Err e) = AnyFormat.StepContract toy letter s (cursor_of k) rows refs rows' refs' (cursor_of k') (Err e)

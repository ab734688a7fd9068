-- Terms of the theorems about writing, besides `write_result` itself.
-- A reader must believe these definitions.
use Rattle.std.specs.Prelude.{◌≡◌, ◌⊎◌, ℕ, ◌<◌, List, [], ◌∷◌, ◌++◌, length}
use Rattle.table.specs.Buffer.{overwrite}
use Rattle.table.specs.Rows.{recs, rows_of}
use Rattle.table.specs.declared.Answer.{Answer}
use Rattle.table.specs.declared.Row.{Row}
use Rattle.phd.specs.Phd.{limit, empty_cache}
use Rattle.phd.specs.declared.Header.{Header}
use Rattle.phd_check.specs.declared.Tables.{Tables}
use Rattle.phd_write.specs.Write.{encode_records, encode_dump, write_result}

-- ---- rows

-- The dump of rows, in order, under the header h.
abbrev pub dump_of : Header → (names refs : List ℕ) → List Row → List ℕ
dump_of h names refs rows = encode_dump names h (recs names refs rows)

-- The dump of the tables that are passed.
abbrev pub tables_dump : Tables → List ℕ
tables_dump t = dump_of t.header t.names.now t.refs.now (rows_of t.rows.now)

-- The rows of that dump and its end tag.
abbrev pub tables_rows : Tables → List ℕ
tables_rows t = encode_records t.header 0 empty_cache (recs t.names.now t.refs.now (rows_of t.rows.now))

-- ---- calls

-- What the contract of `write` states of a call with the answer a, whose output is `out` before and out' after.
pub record AfterWrite (header : Header) (names refs rows out : List ℕ) (a : Answer) (out' : List ℕ) : Type 0 where
  pub is : a ≡ (write_result header names refs rows (length out)).answer
  pub output : out' ≡ overwrite out (write_result header names refs rows (length out)).bytes

-- ---- dumps

-- The bytes exceed the capacity or the size limit.
abbrev pub TooLong : ℕ → List ℕ → Type 0
TooLong out_capacity bytes = (out_capacity < length bytes) ⊎ (limit < length bytes)

-- The last byte is the end tag, 3.
pub record EndsWithEndTag (bytes : List ℕ) : Type 0 where
  pub before : List ℕ
  pub all : before ++ (3 ∷ []) ≡ bytes

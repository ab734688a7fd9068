-- When a run of bytes is read as a given record, and when a record of a dump is the shortest such run.
-- A reader must believe these definitions.
use Rattle.std.specs.Prelude.{◌≡◌, ℕ, ◌+◌, ◌-◌, ◌≤◌, List}
use Rattle.decode.specs.Layout.{whole, run}
use Rattle.table.specs.Rows.{Rec, row_at, name_of, without_place}
use Rattle.phd.specs.Phd.{RecordContext, item, entry, Result, phd}
use Rattle.phd.specs.declared.Header.{Header}
use Rattle.phd.specs.declared.Span.{Span}
use Rattle.reader.specs.Reader.{Capacity}
use Rattle.reader.specs.RowOrigins.{RowOrigin}

-- The record of one row and its references, read from the bytes s. Two records are the same (docs/FORMAT.md 4.2) exactly when
-- they are equal as `Rec`.
unfoldable pub read_rec : (s row refs : List ℕ) → Rec
read_rec s row refs = record { row = without_place (row_at row 0); refs = refs; name = name_of s (row_at row 0) }

-- The bytes of s from `at` up to `end` are read as one record that is the same as r, under the header h, in the context `before`
-- (the previous address and the cache), with any number of references before it.
pub record ReadAs (h : Header) (before : RecordContext) (r : Rec) (s : List ℕ) (at end : ℕ) : Type 0 where
  pub index : ℕ
  pub row : List ℕ
  pub refs : List ℕ
  pub span : Span
  pub after : RecordContext
  pub reads : run (entry h before.address before.cache index) s at ≡ whole (item row refs span after) end
  pub same : read_rec s row refs ≡ r

-- Record number i of a dump, as the result rd of its reading has it, is the shortest that is read as r.
pub record ShortestAt (dump : List ℕ) (A : Capacity) (rd : Result) (r : Rec) (i : ℕ) : Type 0 where
  -- Where the reading found it: the header, the previous address and the cache, its place and its end.
  pub found : RowOrigin phd rd.header dump A rd.rows rd.refs i
  -- Its bytes are read as r.
  pub is_read : ReadAs rd.header found.before.context r dump found.before.at found.end
  -- Any bytes that are read as r, with the same header, previous address and cache, are at least as many.
  pub least : (s : List ℕ) (at end : ℕ) → ReadAs rd.header found.before.context r s at end → at + (found.end - found.before.at) ≤ end

-- The origin of each stored row, for any format: its offset is that of a record, reading one record there, from the state before
-- it, gives that row, and the offsets increase strictly. Theorems: proofs/RowOrigins.antt.
-- A reader must believe `offset_of`, `StateAfter`, `RowOrigin` and `AllRowOrigins`.
use Rattle.std.specs.Prelude.{◌≡◌, List, take}
use Prim.Native.Nat.{ℕ, zero, suc, ◌*◌, ◌<◌}
use Rattle.std.proofs.Math.ListN.{length}
use Rattle.decode.specs.Layout.{whole, run}
use Rattle.table.specs.Table.{row_width, offset_number, row_count, row_slice, number}
use Rattle.reader.specs.Reader.{Capacity, item, Format, State, Result, go, next_item, step, initial_state}
use Rattle.reader.specs.Prefixes.{Prefix}

-- The offset that row i has as its last number: where its record begins in the dump.
abbrev pub offset_of : List ℕ → ℕ → ℕ
offset_of rows i = number rows i offset_number

-- st is the state after i records, of which the first is at offset n.
abbrev pub StateAfter : (D : Format) → D.Header → List ℕ → (A : Capacity) (n i : ℕ) → State D → Type 0
StateAfter D h s A n zero st = st ≡ initial_state D (D.start h) n
StateAfter D h s A n (suc i) st = (before : State D) × (StateAfter D h s A n i before) × (step D h s A before ≡ go st)

-- The origin of row i, in the tables of capacity A that a reading of s fills.
pub record RowOrigin (D : Format) (h : D.Header) (s : List ℕ) (A : Capacity) (rows refs : List ℕ) (i : ℕ) : Type 0 where
  -- The header is whole, and the first record is at `start`, right after it.
  pub start : ℕ
  pub header_whole : run D.header s 0 ≡ whole h start
  -- The state before the row's record, after `count` records: it has the rows before row i, and a prefix of the references.
  pub count : ℕ
  pub before : State D
  pub reached : StateAfter D h s A start count before
  pub rows_before : before.rows ≡ take (i * row_width) rows
  pub refs_before : Prefix before.refs refs
  -- The row's offset is that of the record.
  pub offset : offset_of rows i ≡ before.at
  -- Reading one record there, from that state, gives the row; `list` has its references.
  pub list : List ℕ
  pub note : D.Note
  pub context : D.Context
  pub end : ℕ
  pub item_is : next_item D h s before ≡ whole (item (row_slice rows i) list note context) end

-- Every row that a reading of s stores has its origin.
pub record AllRowOrigins (D : Format) (s : List ℕ) (A : Capacity) (r : Result D) : Type 0 where
  pub each : (i : ℕ) → i < row_count r.rows → RowOrigin D r.header s A r.rows r.refs i
  -- The offsets lie within the dump, and increase strictly.
  pub inside : (i : ℕ) → i < row_count r.rows → offset_of r.rows i < length s
  pub increasing : (i j : ℕ) → i < j → j < row_count r.rows → offset_of r.rows i < offset_of r.rows j

-- ---- consecutive records

-- Every record of the format has a row.
abbrev pub AlwaysRow : Format → Type 0
AlwaysRow D =
    (h : D.Header) (c : D.Context) (index : ℕ) (s : List ℕ) (at : ℕ) (r rs : List ℕ) (m : D.Note) (k : D.Context) (e : ℕ)
    → run (D.entry h c index) s at ≡ whole (item r rs m k) e → length r ≡ row_width

-- Dump formats, and the result of reading any bytes: record after record, rows and references are appended, capacity is checked
-- last, and a reading that stops in a record reports that record's offset (docs/FORMAT.md 5).
-- A dump and the tables are lists of numbers; a byte is a number below 256. A reader must believe these definitions.
use Rattle.std.specs.Prelude.{ℕ, zero, suc, ◌+◌, ◌≤◌, true, false, cond, List, [], ◌++◌, length, leb}
use Rattle.decode.specs.Layout.{Layout, Outcome, whole, stops, run, reply_of, missing_of}

infix 4 ◌⊑◌
-- The size limit of a dump, in bytes: 2^30 (docs/FORMAT.md 2).
unfoldable pub limit : ℕ
limit = 0x40000000

-- The capacity (docs/FORMAT.md 5.3) of the two tables: how many numbers there are for rows, thirteen to a row, and how many for
-- references. A further buffer would be a further field.
pub record Capacity : Type 0 where
  pub rows : ℕ
  pub refs : ℕ

-- The capacity of a row table of R numbers and a reference table of F numbers.
abbrev pub capacity : ℕ → ℕ → Capacity
capacity R F = record { rows = R; refs = F }

-- A ⊑ B: both tables of B have at least the capacity of those of A.
pub record ◌⊑◌ (A B : Capacity) : Type 0 where
  pub rows : A.rows ≤ B.rows
  pub refs : A.refs ≤ B.refs

-- ---- formats

-- What comes next in a dump: the end, or a record with its row (empty if it has none), its references, a note for the code that
-- stores it, and the context after it. Record and row are the scope paper's terms (docs/FORMAT.md 3 and 4.1).
pub data Item (N C : Type 0) : Type 0 where
  end_item : Item N C
  item : List ℕ → List ℕ → N → C → Item N C

-- A dump format: the layouts of its header and its records, and the context that records depend on.
pub record Format : Type 1 where
  -- What the header gives; the context, passed from record to record; the note on a record, which is not stored.
  pub Header : Type 0
  pub Context : Type 0
  pub Note : Type 0
  -- The layout of the header, and the header that is reported if it was not read whole.
  pub header : Layout Header
  pub empty_header : Header
  -- The context before the first record.
  pub start : Header → Context
  -- The layout of the next record or the end, given the header, the context and the number of references before it.
  pub entry : Header → Context → ℕ → Layout (Item Note Context)

-- The items of a format.
abbrev pub ItemOf : Format → Type 0
ItemOf D = Item D.Note D.Context

-- ---- reading

-- The state between records: the offset of the next one, the context, and the tables filled so far.
pub record State (D : Format) : Type 0 where
  pub at : ℕ
  pub context : D.Context
  pub rows : List ℕ
  pub refs : List ℕ

-- The result of a reading. Reply, place, cut and missing bytes are the scope paper's terms (docs/FORMAT.md 8 and 5.2): `missing`
-- is how many bytes the field lacked where the dump is cut, else 0.
pub record Result (D : Format) : Type 0 where
  pub reply : ℕ
  pub place : ℕ
  pub missing : ℕ
  pub rows : List ℕ
  pub refs : List ℕ
  pub header : D.Header

-- What a step does: it goes on with the next state, or ends the reading with a result.
pub data Transition (D : Format) : Type 0 where
  go : State D → Transition D
  halt : Result D → Transition D

-- The result of a reading that ends at a state, with the tables filled so far.
unfoldable pub ended : {D : Format} → D.Header → State D → ℕ → ℕ → ℕ → Result D
ended h st reply place missing =
    record { reply = reply; place = place; missing = missing; rows = st.rows; refs = st.refs; header = h }

-- The state after a record that ends before offset n: its row and its references are appended.
abbrev pub append_item : {D : Format} → State D → List ℕ → List ℕ → D.Context → ℕ → State D
append_item st r rs c n = record { at = n; context = c; rows = st.rows ++ r; refs = st.refs ++ rs }

-- What a step does, given the outcome of reading a record, with tables of capacity A. Capacity is checked last, rows before
-- references; a record that does not fit stores nothing (docs/FORMAT.md 5.3).
unfoldable pub transition : {D : Format} → D.Header → Capacity → State D → Outcome (ItemOf D) → Transition D
transition h A st (whole end_item n) = halt (ended h st 0 n 0)
transition h A st (whole (item r rs _ c) n) =
    cond (leb (length st.rows + length r) A.rows)
    (cond (leb (length st.refs + length rs) A.refs)
    (go (append_item st r rs c n))
    (halt (ended h st 14 st.at 0)))
    (halt (ended h st 13 st.at 0))
transition h A st (stops w) = halt (ended h st (reply_of w) st.at (missing_of w))

-- The outcome of reading one record of the dump s at a state.
abbrev pub next_item : (D : Format) → D.Header → List ℕ → State D → Outcome (ItemOf D)
next_item D h s st = run (D.entry h st.context (length st.refs)) s st.at

-- What the step at a state does: it reads one record of the dump s.
unfoldable pub step : (D : Format) → D.Header → List ℕ → Capacity → State D → Transition D
step D h s A st = transition h A st (next_item D h s st)

-- The result of reading record after record, from a state on. The first number is fuel: it only makes the recursion end. Every
-- record has at least one byte, so fuel above the dump's length never runs out.
unfoldable pub records : (D : Format) → ℕ → D.Header → List ℕ → Capacity → State D → Result D
records D zero h s A st = ended h st 0 st.at 0
records D (suc f) h s A st = elim (step D h s A st) [ go st' ↦ records D f h s A st' | halt r ↦ r ]

-- The state before the first record, which is at offset n.
unfoldable pub initial_state : (D : Format) → D.Context → ℕ → State D
initial_state D c n = record { at = n; context = c; rows = []; refs = [] }

-- The result of a reading that ends before the records: place 0, nothing stored, and no header.
unfoldable pub no_records : (D : Format) → ℕ → ℕ → Result D
no_records D reply missing = record { reply = reply; place = 0; missing = missing; rows = []; refs = []; header = D.empty_header }

-- The result of a reading, given the outcome of reading the header.
unfoldable pub from_header : (D : Format) → List ℕ → Capacity → Outcome D.Header → Result D
from_header D s A (whole h n) = records D (suc limit) h s A (initial_state D (D.start h) n)
from_header D s A (stops w) = no_records D (reply_of w) (missing_of w)

-- The result of reading the bytes s into tables of capacity A. Bytes over the size limit get reply 2.
unfoldable pub read_result : (D : Format) → List ℕ → Capacity → Result D
read_result D s A = elim (leb (length s) limit) [ true ↦ from_header D s A (run D.header s 0) | false ↦ no_records D 2 0 ]

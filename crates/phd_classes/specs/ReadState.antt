-- What holds between two batches of a reading with class summaries, and what each of its functions does.
-- A reader need not believe it: `Finished` is stated by the definitions of ClassesRead.
use Rattle.std.specs.Prelude.{◌≡◌, ◌⊎◌, ℕ, ◌+◌, ◌*◌, ◌≤◌, ◌<◌, Bool, true, false, cond, List, [], ◌∷◌, length, take, Result, Ok, Err}
use Rattle.std.proofs.Common.{sym, ap, ◌∙◌}
use Rattle.decode.specs.ByteValues.{AllBytes}
use Rattle.decode.specs.Layout.{whole, run}
use Rattle.table.specs.Buffer.{overwrite}
use Rattle.table.specs.Table.{row_width}
use Rattle.table.specs.Rows.{row_at, rows_of}
use Rattle.table.specs.declared.Row.{Row}
use Rattle.summaries.specs.Summaries.{Key, has, keyed, summaries}
use Rattle.summaries.specs.declared.Summary.{Summary}
use Rattle.summary_index.specs.declared.Bucket.{Bucket}
use Rattle.summary_pass.specs.PassState.{first_tally, TallyHolds, keys_counted}
use Rattle.phd.specs.Phd.{limit, header, entry, item, no_records, Result as PhdResult}
use Rattle.phd.specs.Shapes.{ValidBits}
use Rattle.phd.specs.declared.Header.{Header}
use Rattle.reader.specs.Reader.{no_records as no_records_of}
use Rattle.reader.specs.declared.End.{End}
use Rattle.phd_read.specs.PhdSteps.{CursorInBounds, UpToContract, initial_cursor}
use Rattle.phd_read.specs.declared.records.Cursor.{Cursor}
use Rattle.classes_read.specs.declared.ClassesAnswer.{ClassesAnswer}
use Rattle.classes_read.specs.ClassesRead.{classes_result, classes_answer}
use Rattle.phd_classes.specs.declared.batches.Progress.{Progress}

-- ---- the beginning

-- The header was read, and the first record is at offset `at`.
pub record Opened (dump : List ℕ) (h : Header) (at : ℕ) : Type 0 where
  pub is : run header dump 0 ≡ whole h at
  pub in_limit : length dump ≤ limit
  pub at_in : at ≤ length dump
  pub bits : ValidBits h.bits
  pub bytes : AllBytes dump

-- `open`: the header was read, or the reading ends before the first record, whatever tables and list.
abbrev pub OpenedOrRefused : (dump : List ℕ) → Result (Header × ℕ) (ℕ × ℕ) → Type 0
OpenedOrRefused dump (Ok (h, at)) = Opened dump h at
OpenedOrRefused dump (Err (reply, missing)) = (R F C : ℕ) → classes_result dump R F C ≡ no_records reply missing

-- The state before the first record.
pub record Started (dump : List ℕ) (s : Progress) : Type 0 where
  pub opened : Opened dump s.header s.cursor.at
  pub cursor : s.cursor ≡ initial_cursor s.cursor.at
  pub tally : s.tally ≡ first_tally

-- The reading ends before the first record, whatever tables and list: its result, and so the answer, has place 0, no rows and an empty header.
pub record Refused (dump : List ℕ) (a : ClassesAnswer) : Type 0 where
  pub reply : ℕ
  pub missing : ℕ
  pub is : a ≡ classes_answer (no_records reply missing)
  pub result : (R F C : ℕ) → classes_result dump R F C ≡ no_records reply missing

-- So the answer is that of the definition, and nothing is stored.
module _ {dump : List ℕ} {a : ClassesAnswer} (r : Refused dump a) (R F C : ℕ) where
  pub refused_answer : a ≡ classes_answer (classes_result dump R F C)
  refused_answer = r.is ∙ ap classes_answer (sym (r.result R F C))

  pub refused_rows : (classes_result dump R F C).rows ≡ []
  unfolding no_records_of
  refused_rows = ap (λ (x : PhdResult). x.rows) (r.result R F C)

  pub refused_refs : (classes_result dump R F C).refs ≡ []
  unfolding no_records_of
  refused_refs = ap (λ (x : PhdResult). x.refs) (r.result R F C)

-- `begin`.
abbrev pub Begun : (dump : List ℕ) → Result Progress ClassesAnswer → Type 0
Begun dump (Ok s) = Started dump s
Begun dump (Err a) = Refused dump a

-- ---- a batch

-- Whether one of the first n rows has a key.
unfoldable pub among : List Row → Key → Bool
among [] k = false
among (r ∷ rows) k = cond (has k r) true (among rows k)

abbrev pub key_among : List ℕ → ℕ → Key → Bool
key_among rows n k = among (take n (rows_of rows)) k

-- A record at the cursor that fits both tables: its row, with the number of its references.
pub record FittingRecord (h : Header) (s rows refs : List ℕ) (k : Cursor) (row : List ℕ) : Type 0 where
  pub item_refs : List ℕ
  pub note : _
  pub context : _
  pub end : ℕ
  pub is : run (entry h k.context.address k.context.cache k.refs) s k.at ≡ whole (item row item_refs note context) end
  pub row_full : length row ≡ row_width
  pub row_fits : k.rows * row_width + row_width ≤ length rows
  pub refs_fit : k.refs + length item_refs ≤ length refs

-- `needs_entry`: if so, the record at the cursor fits the tables, and its row has a key that is not among those counted; if not, no record
-- that fits has such a row.
abbrev pub EntryNeeded : (dump rows refs : List ℕ) → Progress → Bool → Type 0
EntryNeeded dump rows refs s true =
    (row : List ℕ) × (FittingRecord s.header dump rows refs s.cursor row × (length (keys_counted rows s.tally) < length (keyed (row_at row 0) (keys_counted rows s.tally))))
EntryNeeded dump rows refs s false =
    (row : List ℕ) → FittingRecord s.header dump rows refs s.cursor row → length (keyed (row_at row 0) (keys_counted rows s.tally)) ≤ length (keys_counted rows s.tally)

-- `advance`, with a list of so many entries.
pub record AdvanceRequires (dump rows refs : List ℕ) (buckets : List Bucket) (entries : ℕ) (s : Progress) : Type 0 where
  pub in_bounds : CursorInBounds dump rows refs s.cursor
  pub bits : ValidBits s.header.bits
  pub in_limit : length dump ≤ limit
  pub tally : TallyHolds rows buckets s.tally
  pub used_in : s.tally.used ≤ entries
  pub few : s.cursor.rows < 0x1_0000_0000

-- The state of a reading with another cursor.
abbrev pub with_cursor : Progress → Cursor → Progress
with_cursor s k = record { header = s.header; cursor = k; tally = s.tally }

pub data Advanced (dump rows refs : List ℕ) (entries : ℕ) (s : Progress) (rows' refs' : List ℕ) (s' : Progress) (r : Result (Unit {0}) End) : Type 0 where
  -- No entry is left.
  full : entries ≤ s.tally.used → EntryNeeded dump rows refs s true → r ≡ Err (record { reply = 20; place = s.cursor.at; missing = 0 }) → s' ≡ s → rows' ≡ rows → refs' ≡ refs
      → Advanced dump rows refs entries s rows' refs' s' r
  -- A batch was read: of at most as many rows as entries are left, or of one that needs no new entry.
  reads : (upto : ℕ) → s.cursor.rows < upto → UpToContract s.header dump s.cursor rows refs upto rows' refs' s'.cursor r → s' ≡ with_cursor s s'.cursor
      → (s.tally.used + upto ≤ s.cursor.rows + entries) ⊎ ((upto ≡ s.cursor.rows + 1) × EntryNeeded dump rows refs s false)
      → Advanced dump rows refs entries s rows' refs' s' r

-- ---- the end

-- The reading has ended: the answer, the tables and the list are those of the definition.
pub record Finished (dump rows refs : List ℕ) (classes : List Summary) (a : ClassesAnswer) (rows' refs' : List ℕ) (classes' : List Summary) : Type 0 where
  pub answer : a ≡ classes_answer (classes_result dump (length rows) (length refs) (length classes))
  pub row_table : rows' ≡ overwrite rows (classes_result dump (length rows) (length refs) (length classes)).rows
  pub ref_table : refs' ≡ overwrite refs (classes_result dump (length rows) (length refs) (length classes)).refs
  pub list : classes' ≡ overwrite classes (summaries (rows_of (classes_result dump (length rows) (length refs) (length classes)).rows))

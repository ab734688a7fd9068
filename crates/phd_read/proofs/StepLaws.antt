-- A step satisfies its contract for each outcome of reading at the cursor: by the laws of `reader`, and by where a record's
-- references are.
use mathlib.Core.Path.{◌≡◌}
use mathlib.Core.List.{List}
use Prim.Native.Nat.{ℕ, ◌+◌, ◌*◌, ◌≤◌, ◌<◌}
use native.Mathlib.Omega.{arith}
use lib.ListN.{length}
use lib.Seq.{sets}
use Rattle.decode.specs.Layout.{Outcome, whole, stops, run, reply_of, missing_of}
use Rattle.decode.specs.declared.Stop.{Stop}
use Rattle.table.specs.Table.{row_width}
use Rattle.phd.specs.Phd.{max_address, ref_list, Item, end_item, item, entry, phd}
use Rattle.phd.specs.EntryLaws.{origin_at}
use Rattle.phd.specs.declared.Header.{Header}
use Rattle.phd_record.specs.RecordReads.{read_item}
use Rattle.phd_record.specs.declared.Record.{Record}
use Rattle.reader.proofs.TableSteps as AnyFormat
use Rattle.phd_read.specs.PhdLaws.{phd_lawful}
use Rattle.phd_read.specs.RecordProperties.{ReadFrom, entry_read_from}
use Rattle.phd_read.specs.StoredRefs.{RefsAllRead, values_of}
use Rattle.phd_read.specs.PhdSteps.{advanced, FoundAt, CursorInBounds, StepContinues, StepEnds}
use Rattle.phd_read.specs.declared.records.Cursor.{Cursor}

module _ (h : Header) {s rows refs : List ℕ} {k : Cursor} (fits : CursorInBounds s rows refs k) where
  -- The outcome of reading at the cursor.
  abbrev at_cursor : Outcome Item
  at_cursor = run (entry h k.context.address k.context.cache k.refs) s k.at

  -- The end tag ends the reading with reply 0.
  pub ends_at_end_tag : (n : ℕ) → at_cursor ≡ whole end_item n → StepEnds h s k rows refs rows refs k 0 n 0
  ends_at_end_tag = AnyFormat.step_ends_end phd phd_lawful h fits

  -- A stop ends the reading with its reply, at the cursor.
  pub ends_at_stop : (w : Stop) → at_cursor ≡ stops w → StepEnds h s k rows refs rows refs k (reply_of w) k.at (missing_of w)
  ends_at_stop = AnyFormat.step_ends_stop phd phd_lawful h fits

  -- A record was read; the next tag is at offset n.
  module _ {f : Record} {n : ℕ} (is : FoundAt h s k f n) where
    abbrev item_read : (rs : List ℕ) × (at_cursor ≡ whole (item f.row rs f.span f.context) n)
    item_read = read_item is

    -- The record satisfies `ReadFrom`.
    pub read_from : ReadFrom h s (origin_at k.at k.refs) f.row (record { span = f.span; list = item_read.0 }) f.context.address
    read_from = entry_read_from h s k.context.address k.context.cache k.refs k.at f.row item_read.0 f.span f.context n item_read.1

    -- The references begin within the dump, and each has at most 8 bytes.
    pub span_in_dump : f.span.place ≤ length s
    span_in_dump = read_from.refs.inside

    pub span_width_le_8 : f.span.width ≤ 8
    span_width_le_8 = read_from.refs.width_le_8

    -- The outcome of reading the references from their span.
    abbrev refs_outcome : Outcome (List ℕ)
    refs_outcome = run (ref_list f.span.width f.context.address (max_address h.bits) f.span.count) s f.span.place

    refs_outcome_whole : refs_outcome ≡ whole item_read.0 read_from.refs.end
    refs_outcome_whole = read_from.refs.read

    -- All references are present and valid.
    pub refs_all_read : RefsAllRead refs_outcome
    refs_all_read = rw refs_outcome_whole tt

    values_are : values_of refs_outcome ≡ item_read.0
    values_are = rw refs_outcome_whole

    refs_length : length item_read.0 ≡ f.span.count
    refs_length = read_from.refs.in_bounds.many

    -- There are as many values as the record has references.
    pub values_length : length (values_of refs_outcome) ≡ f.span.count
    values_length = rw values_are refs_length

    -- Without capacity for a row, the reading ends with reply 13.
    pub ends_rows_full : length rows < k.rows * row_width + row_width → StepEnds h s k rows refs rows refs k 13 k.at 0
    ends_rows_full r = AnyFormat.step_ends_rows phd phd_lawful h fits item_read.1 (omega (arith, read_from.numbers))

    -- Without capacity for the references, the reading ends with reply 14.
    pub ends_refs_full : k.rows * row_width + row_width ≤ length rows → length refs < k.refs + f.span.count
        → StepEnds h s k rows refs rows refs k 14 k.at 0
    ends_refs_full r q = AnyFormat.step_ends_refs phd phd_lawful h fits item_read.1 (omega (arith, read_from.numbers)) (rw refs_length q)

    -- With capacity for both, the record is stored and the reading continues.
    pub continues : k.rows * row_width + row_width ≤ length rows → k.refs + f.span.count ≤ length refs
        → StepContinues h s k rows refs (sets rows (k.rows * row_width) f.row) (sets refs k.refs (values_of refs_outcome)) (advanced k n f)
    continues r q =
        let l = read_from.numbers in
        rw values_are (AnyFormat.step_continues phd phd_lawful h fits item_read.1 (k.rows + 1) (k.refs + f.span.count) (omega arith) (rw refs_length) (omega arith) (rw refs_length q))

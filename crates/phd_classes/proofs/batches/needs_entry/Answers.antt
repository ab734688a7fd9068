-- The record at the cursor is the only one that can fit, and its row's key is searched among those in use.
use Rattle.std.proofs.Common.{◌≡◌, ℕ, ◌+◌, ◌*◌, ◌≤◌, ◌<◌, Bool, true, false, not, List, length, sym, ap, ◌∙◌, arith}
use Rattle.std.specs.Prelude.{Some, None}
use Rattle.decode.specs.Layout.{whole}
use Rattle.table.specs.Table.{row_width, row_count}
use Rattle.table.specs.Rows.{row_at}
use Rattle.summaries.specs.declared.Key.{Key}
use Rattle.summaries.specs.Summaries.{keyed}
use Rattle.summaries.specs.EntrySteps.{numbers, key_of_row, no_key, some_key}
use Rattle.summary_pass.specs.PassState.{keys_counted}
use Rattle.phd_record.specs.RecordReads.{read_item}
use Rattle.phd_record.specs.declared.Record.{Record}
use Rattle.phd_read.specs.PhdSteps.{FoundAt}
use Rattle.phd_read.specs.RecordProperties.{entry_read_from}
use Rattle.phd_read.specs.declared.records.Cursor.{Cursor}
use Rattle.phd_classes.specs.declared.batches.Progress.{Progress}
use Rattle.phd_classes.specs.ReadState.{FittingRecord, EntryNeeded}
use Rattle.phd_classes.specs.KeyAmong.{in_use, class_adds_none, in_use_adds_none, new_adds_one}
use Rattle.phd_classes.proofs.batches.needs_entry.Goals as goal

-- The record f at the cursor.
module _ (s : Progress) (dump rows refs : List ℕ) (f : Record) (n : ℕ) (is : FoundAt s.header dump s.cursor f n) where
  abbrev k : Cursor
  k = s.cursor

  -- A record that fits is the one read.
  fitting_is : (row : List ℕ) (g : FittingRecord s.header dump rows refs k row) → f ≡ record { row = row; span = g.note; context = g.context }
  fitting_is row g = let e : whole (Some (record { row = row; span = g.note; context = g.context })) g.end ≡ whole (Some f) n = rw g.is at is in cc

  fitting_row : (row : List ℕ) → FittingRecord s.header dump rows refs k row → f.row ≡ row
  fitting_row row g = ap (λ (x : Record). x.row) (fitting_is row g)

  fitting_count : (row : List ℕ) (g : FittingRecord s.header dump rows refs k row) → f.span.count ≡ length g.item_refs
  fitting_count row g =
      ap (λ (x : Record). x.span.count) (fitting_is row g)
      ∙ sym (entry_read_from s.header dump k.context.address k.context.cache k.refs k.at row g.item_refs g.note g.context g.end g.is).refs.in_bounds.many

  -- The row of the record read is whole.
  row_whole : 0 < row_count f.row
  unfolding row_count
  row_whole =
      let x = read_item is in
      let y = entry_read_from s.header dump k.context.address k.context.cache k.refs k.at f.row x.0 f.span _ n x.1 in
      omega (arith, y.numbers)

  -- A class row needs no entry.
  class_needs_none : key_of_row (row_at f.row 0) ≡ None → EntryNeeded dump rows refs s false
  class_needs_none e = λ row g.
      let l : length (keyed (row_at f.row 0) (keys_counted rows s.tally)) ≤ length (keys_counted rows s.tally) = class_adds_none (row_at f.row 0) (keys_counted rows s.tally) (no_key (row_at f.row 0) e) in
      rw (fitting_row row g) at l

  -- The record read fits if the tables have capacity for it.
  module _ (row_fits : k.rows * row_width + row_width ≤ length rows) (refs_fit : k.refs + f.span.count ≤ length refs) where
    fits : FittingRecord s.header dump rows refs k f.row
    fits =
        let x = read_item is in
        let y = entry_read_from s.header dump k.context.address k.context.cache k.refs k.at f.row x.0 f.span _ n x.1 in
        record { item_refs = x.0; note = f.span; context = _; end = n; is = x.1; row_full = y.numbers; row_fits = row_fits; refs_fit = rw y.refs.in_bounds.many refs_fit }

    -- It needs an entry unless its key is in use.
    needed : (key : Key) → key_of_row (row_at f.row 0) ≡ Some key → (b : Bool) → b ≡ in_use (numbers key) (keys_counted rows s.tally) → EntryNeeded dump rows refs s (not b)
    needed key e true u = λ row g.
        let l : length (keyed (row_at f.row 0) (keys_counted rows s.tally)) ≤ length (keys_counted rows s.tally) =
        in_use_adds_none (row_at f.row 0) (keys_counted rows s.tally) (rw (← (some_key (row_at f.row 0) key e).1) (sym u)) in
        rw (fitting_row row g) at l
    needed key e false u =
        let o = some_key (row_at f.row 0) key e in
        (f.row, (fits, new_adds_one (row_at f.row 0) (keys_counted rows s.tally) o.0 (rw (← o.1) (sym u))))

pub returns-in-Ok-None : goal.returns-in-Ok-None
returns-in-Ok-None c row g =
    let read = rw c.in-Ok-None.field-0-is at c.in-Ok-None.ensures.reads in
    let e = rw g.is at read.value in
    let z : ◌≡◌ {A = ℕ} 0 1 = cc in
    absurd (omega arith)

pub returns-in-Err : goal.returns-in-Err
returns-in-Err c row g =
    let e = rw g.is at c.in-Err.ensures.reads.value in
    let z : ◌≡◌ {A = ℕ} 0 1 = cc in
    absurd (omega arith)

pub returns-then-left-found : goal.returns-then-left-found
returns-then-left-found c row g =
    let a = c.args in
    let read = c.in-Ok-Some.ensures.reads in
    let e = fitting_count a.s a.dump.now a.rows.now a.refs.now c.in-Ok-Some.found _ (sym (rw c.in-Ok-Some.field-0-is at read.value)) row g in
    absurd (omega (arith, g.refs_fit))

pub row_at-requires : goal.row_at-requires
row_at-requires c =
    let a = c.args in
    let read = rw c.in-Ok-Some.field-0-is at c.in-Ok-Some.ensures.reads in
    row_whole a.s a.dump.now a.rows.now a.refs.now c.in-Ok-Some.found _ (sym read.value)

pub returns-in-Some : goal.returns-in-Some
returns-in-Some c =
    let a = c.args in
    let read = rw c.in-Ok-Some.field-0-is at c.in-Ok-Some.ensures.reads in
    let key = rw c.row_at.ensures at (sym c.of_row.ensures ∙ c.in-Some.is) in
    needed a.s a.dump.now a.rows.now a.refs.now c.in-Ok-Some.found _ (sym read.value)
    (omega (arith, c.requires.0.rows_in, c.if-rows-k-lt-ROW_WIDTH.false)) (omega (arith, c.requires.0.refs_in, c.if-left-found.false)) c.in-Some.key key c.has_entry.result c.has_entry.ensures

pub returns-in-None : goal.returns-in-None
returns-in-None c =
    let a = c.args in
    let read = rw c.in-Ok-Some.field-0-is at c.in-Ok-Some.ensures.reads in
    let none = rw c.row_at.ensures at (sym c.of_row.ensures ∙ c.in-None.is) in
    class_needs_none a.s a.dump.now a.rows.now a.refs.now c.in-Ok-Some.found _ (sym read.value) none

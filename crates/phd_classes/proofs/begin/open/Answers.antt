-- The code checks the size limit and reads the header. A reading that this stops has no rows, so its result is the same with any list.
use Rattle.std.proofs.Common.{◌≡◌, ℕ, ◌≤◌, List, length, refl, sym, arith}
use Rattle.decode.specs.Layout.{reply_of, missing_of}
use Rattle.table.specs.Table.{row_count}
use Rattle.table.specs.Rows.{rows_from, rows_of}
use Rattle.phd.specs.Phd.{limit, phd, capacity, read_result, no_records}
use Rattle.phd_header.specs.HeaderOutcomes.{header_bits}
use Rattle.reader.specs.Reader.{no_records as no_records_of}
use Rattle.reader.specs.Steps.{read_over_limit, read_header_stops}
use Rattle.classes_read.specs.ClassesRead.{rows_within_from, rows_within, classes_result}
use Rattle.phd_classes.proofs.begin.open.Goals as goal

-- A reading without rows has the same result with any list.
no_rows : (s : List ℕ) (R F C reply missing : ℕ) → read_result s R F ≡ no_records reply missing → classes_result s R F C ≡ no_records reply missing
unfolding classes_result rows_within rows_within_from rows_of rows_from row_count no_records_of
no_rows s R F C reply missing e = rw e refl

-- The dump is within the size limit.
within : (s : List ℕ) → length s ≤ 0x4000_0000 → length s ≤ limit
unfolding limit
within s l = l

pub returns-then-dump-gt-LIMIT : goal.returns-then-dump-gt-LIMIT
unfolding limit
returns-then-dump-gt-LIMIT c R F C =
    let s : List ℕ = c.args.dump.now in
    no_rows s R F C 2 0 (read_over_limit phd s (capacity R F) c.if-dump-gt-LIMIT.true)

pub returns-in-Ok : goal.returns-in-Ok
returns-in-Ok c =
    let read = c.in-Ok.ensures.reads in
    let opened = sym read.value in
    record {
      is = opened;
      in_limit = within _ c.if-dump-gt-LIMIT.false;
      at_in = rw read.same at c.read_header.new.d.inside;
      bits = header_bits _ _ _ opened;
      bytes = record { each = λ i. omega (arith, c.type_inv.dump i) };
    }

pub returns-in-Err : goal.returns-in-Err
returns-in-Err c R F C =
    let s : List ℕ = c.args.dump.now in
    let w = c.in-Err.w in
    let stopped = sym c.in-Err.ensures.reads.value in
    rw (c.reply_of.ensures, c.missing_of.ensures)
    (no_rows s R F C (reply_of w) (missing_of w) (read_header_stops phd s (capacity R F) w (within s c.if-dump-gt-LIMIT.false) stopped))

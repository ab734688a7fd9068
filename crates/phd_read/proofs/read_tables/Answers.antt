use Rattle.std.proofs.Common.{refl, sym, length}
use Rattle.phd.specs.Phd.{limit, phd, capacity}
use Rattle.table.specs.Table.{row_count}
use Rattle.phd_header.specs.HeaderOutcomes.{header_bits}
use Rattle.table.specs.Buffer.{overwrite}
use Rattle.phd_read.specs.ReadContract.{read_answer}
use Rattle.reader.specs.Reader.{no_records as no_records_of}
use Rattle.reader.specs.Steps.{read_over_limit, read_header_whole, read_header_stops}
use Rattle.phd_read.proofs.read_tables.Goals as goal

pub returns-then-dump-gt-LIMIT : goal.returns-then-dump-gt-LIMIT
unfolding limit no_records_of overwrite
returns-then-dump-gt-LIMIT c =
    let a = c.args in
    rw (read_over_limit phd a.dump.now (capacity (length a.rows.now) (length a.refs.now)) c.if-dump-gt-LIMIT.true)
    (record { is = c.no_records.ensures; rows = refl; refs = refl })

pub read_records-requires : goal.read_records-requires
unfolding limit
read_records-requires c =
    let read = c.in-Ok.ensures.reads in
    (rw read.same at c.read_header.new.d.inside, c.if-dump-gt-LIMIT.false, header_bits _ _ _ (sym read.value))

pub returns-in-Ok : goal.returns-in-Ok
unfolding limit
returns-in-Ok c =
    let a = c.args in
    rw (read_header_whole phd a.dump.now (capacity (length a.rows.now) (length a.refs.now)) _ _ c.if-dump-gt-LIMIT.false (sym c.in-Ok.ensures.reads.value))
    c.read_records.ensures

pub returns-in-Err : goal.returns-in-Err
unfolding limit read_answer no_records_of overwrite row_count
returns-in-Err c =
    let a = c.args in
    rw (read_header_stops phd a.dump.now (capacity (length a.rows.now) (length a.refs.now)) _ c.if-dump-gt-LIMIT.false (sym c.in-Err.ensures.reads.value), c.no_records-in-Err.ensures, c.reply_of.ensures, c.missing_of.ensures)
    (record { is = refl; rows = refl; refs = refl })

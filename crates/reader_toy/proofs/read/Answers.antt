use Rattle.std.proofs.Common.{refl, sym, length}
use Rattle.table.specs.Buffer.{overwrite}
use Rattle.reader.specs.Reader.{limit, capacity, no_records as no_records_of}
use Rattle.reader.specs.Steps.{read_over_limit, read_header_whole, read_header_stops}
use Rattle.reader_toy.specs.Toy.{toy}
use Rattle.reader_toy.proofs.read.Goals as goal

pub returns-then-dump-gt-LIMIT : goal.returns-then-dump-gt-LIMIT
unfolding limit no_records_of overwrite
returns-then-dump-gt-LIMIT c =
    let a = c.args in
    rw (read_over_limit toy a.dump.now (capacity (length a.rows.now) (length a.refs.now)) c.if-dump-gt-LIMIT.true)
    (record { is = c.no_records.ensures; rows = refl; refs = refl })

pub read_records-requires : goal.read_records-requires
unfolding limit
read_records-requires c = (rw c.in-Ok.ensures.reads.same at c.exactly.new.self.inside, c.if-dump-gt-LIMIT.false)

pub returns-in-Ok : goal.returns-in-Ok
unfolding limit
returns-in-Ok c =
    let a = c.args in
    rw (read_header_whole toy a.dump.now (capacity (length a.rows.now) (length a.refs.now)) _ _ c.if-dump-gt-LIMIT.false (sym c.in-Ok.ensures.reads.value))
    c.read_records.ensures

pub returns-in-Err : goal.returns-in-Err
unfolding limit no_records_of overwrite
returns-in-Err c =
    let a = c.args in
    rw (read_header_stops toy a.dump.now (capacity (length a.rows.now) (length a.refs.now)) _ c.if-dump-gt-LIMIT.false (sym c.in-Err.ensures.reads.value), ← c.reply_of.ensures, ← c.missing_of.ensures)
    (record { is = c.no_records-in-Err.ensures; rows = refl; refs = refl })

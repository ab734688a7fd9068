use Rattle.phd.specs.Phd.{fields}
use Rattle.decode.specs.Reads.{stopped, reads_then, reads_stop}
use Rattle.decode.specs.ReadsAs.{reads_as_then, reads_as_stop}
use Rattle.phd_record.specs.RecordReads.{record_of}
use Rattle.phd_record.proofs.head.Head.read_fields.Goals as goal

pub returns-in_err-front : goal.returns-in_err-front
unfolding fields
returns-in_err-front c = rw (stopped c.from_residual.ensures) (reads_as_stop record_of _ c.in_err-front.ensures)

pub returns-in_err-middle : goal.returns-in_err-middle
unfolding fields
returns-in_err-middle c =
    rw (stopped c.from_residual-in_err-middle.ensures)
    (reads_as_then record_of _ c.in_ok-front.ensures (reads_as_stop record_of _ c.in_err-middle.ensures))

pub returns-in_err-name : goal.returns-in_err-name
unfolding fields
returns-in_err-name c =
    rw (stopped c.from_residual-in_err-name.ensures)
    (reads_as_then record_of _ c.in_ok-front.ensures (reads_as_then record_of _ c.in_ok-middle.ensures (reads_as_stop record_of _ c.in_err-name.ensures)))

pub returns : goal.returns
unfolding fields
returns c =
    reads_as_then record_of _ c.in_ok-front.ensures
    (reads_as_then record_of _ c.in_ok-middle.ensures (reads_as_then record_of _ c.in_ok-name.ensures c.read_from_ref_count.ensures))

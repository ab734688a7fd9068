use Rattle.phd.specs.Phd.{from_ref_count}
use Rattle.decode.specs.Reads.{stopped}
use Rattle.decode.specs.ReadsAs.{reads_as_then, reads_as_stop, reads_as_yield}
use Rattle.phd_record.specs.RecordReads.{record_of, make_record}
use Rattle.phd_record.proofs.RecordLaws.{spanned_read, spanned_stop}
use Rattle.phd_record.proofs.head.Head.read_from_ref_count.Goals as goal

pub returns-in_err-count : goal.returns-in_err-count
unfolding from_ref_count
returns-in_err-count c = rw (stopped c.from_residual.ensures) (reads_as_stop record_of _ c.in_err-count.ensures)

pub returns-in_err-check_refs : goal.returns-in_err-check_refs
unfolding from_ref_count
returns-in_err-check_refs c =
    rw (stopped c.from_residual-in_err-check_refs.ensures)
    (reads_as_then record_of _ c.in_ok-count.ensures (reads_as_stop record_of _ (spanned_stop _ _ _ _ c.in_err-check_refs.ensures)))

pub returns-in_err-tail : goal.returns-in_err-tail
unfolding from_ref_count
returns-in_err-tail c =
    rw (stopped c.from_residual-in_err-tail.ensures)
    (reads_as_then record_of _ c.in_ok-count.ensures
    (reads_as_then record_of _ (spanned_read _ _ _ _ c.in_ok-check_refs.ensures).1 (reads_as_stop record_of _ c.in_err-tail.ensures)))

pub returns : goal.returns
unfolding from_ref_count make_record
returns c =
    rw c.record.ensures
    (reads_as_then record_of _ c.in_ok-count.ensures
    (reads_as_then record_of _ (spanned_read _ _ _ _ c.in_ok-check_refs.ensures).1
    (reads_as_then record_of _ c.in_ok-tail.ensures (reads_as_yield record_of _ _))))

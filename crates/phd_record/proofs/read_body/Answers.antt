use Rattle.phd.specs.Phd.{record_body}
use Rattle.decode.specs.Reads.{stopped}
use Rattle.decode.specs.ReadsAs.{reads_as_then, reads_as_stop}
use Rattle.phd_record.specs.RecordReads.{record_of}
use Rattle.phd_record.proofs.RecordLaws.{reads_form, reads_known}
use Rattle.phd_record.proofs.read_body.Goals as goal

pub returns-in_err-form : goal.returns-in_err-form
unfolding record_body
returns-in_err-form c =
    let form = rw c.tag_form.ensures at c.in_err-form.ensures.value in
    rw (stopped c.from_residual.ensures) (reads_as_stop record_of _ (reads_form _ _ form))

pub returns-in_err-known : goal.returns-in_err-known
unfolding record_body
returns-in_err-known c =
    let form = rw c.tag_form.ensures at c.in_ok-form.ensures.value in
    let known = rw c.slot_class_of.ensures at c.in_err-known.ensures.value in
    rw (stopped c.from_residual-in_err-known.ensures) (reads_as_then record_of _ (reads_form _ _ form) (reads_as_stop record_of _ (reads_known _ _ _ known)))

pub returns-in_err-flags : goal.returns-in_err-flags
unfolding record_body
returns-in_err-flags c =
    let form = rw c.tag_form.ensures at c.in_ok-form.ensures.value in
    let known = rw c.slot_class_of.ensures at c.in_ok-known.ensures.value in
    rw (stopped c.from_residual-in_err-flags.ensures)
    (reads_as_then record_of _ (reads_form _ _ form) (reads_as_then record_of _ (reads_known _ _ _ known) (reads_as_stop record_of _ c.in_err-flags.ensures.reads)))

pub returns : goal.returns
unfolding record_body
returns c =
    let form = rw c.tag_form.ensures at c.in_ok-form.ensures.value in
    let known = rw c.slot_class_of.ensures at c.in_ok-known.ensures.value in
    let i = c.new-head.ensures in
    let fields = rw (i.top, i.cache, i.origin, i.known, i.hash_kind, i.shape) at c.read_fields.ensures in
    reads_as_then record_of _ (reads_form _ _ form) (reads_as_then record_of _ (reads_known _ _ _ known) (reads_as_then record_of _ c.in_ok-flags.ensures.reads fields))

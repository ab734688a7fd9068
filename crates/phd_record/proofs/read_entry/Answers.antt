use Rattle.std.proofs.lemmas.Bool.{eq-eqb, ne_eqb}
use Rattle.decode.specs.Reads.{stopped}
use Rattle.decode.specs.ReadsAs.{reads_as_then, reads_as_stop, reads_as_yield, reads_as_position}
use Rattle.phd.specs.Phd.{end_item, from_tag, entry}
use Rattle.phd_record.specs.RecordReads.{record_of}
use Rattle.phd_record.proofs.read_entry.Goals as goal

pub returns-in_err-tag : goal.returns-in_err-tag
unfolding entry from_tag
returns-in_err-tag c = rw (stopped c.from_residual.ensures) (reads_as_position record_of _ (reads_as_stop record_of _ c.in_err-tag.ensures.reads))

pub returns-then-tag-eq3 : goal.returns-then-tag-eq3
unfolding entry from_tag
returns-then-tag-eq3 c =
    reads_as_position record_of _
    (reads_as_then record_of _ c.in_ok-tag.ensures.reads (rw (eq-eqb _ _ c.if-tag-eq3.true) (reads_as_yield record_of end_item _)))

pub returns-in_err-record : goal.returns-in_err-record
unfolding entry from_tag
returns-in_err-record c =
    rw (stopped c.from_residual-in_err-record.ensures)
    (reads_as_position record_of _ (reads_as_then record_of _ c.in_ok-tag.ensures.reads (rw (ne_eqb _ _ c.if-tag-eq3.false) c.in_err-record.ensures)))

pub returns : goal.returns
unfolding entry from_tag
returns c =
    reads_as_position record_of _ (reads_as_then record_of _ c.in_ok-tag.ensures.reads (rw (ne_eqb _ _ c.if-tag-eq3.false) c.in_ok-record.ensures))

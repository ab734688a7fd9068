use Rattle.std.proofs.Common.{sym}
use Rattle.decode.specs.ReadsAs.{mapped_stops}
use Rattle.phd_record.specs.RecordReads.{record_of, read_end}
use Rattle.phd_read.proofs.StepLaws.{ends_at_end_tag, ends_at_stop}
use Rattle.phd_read.proofs.records.step.Goals as goal

pub returns-in-Ok-None : goal.returns-in-Ok-None
returns-in-Ok-None c =
    let read = rw c.in-Ok-None.field-0-is at c.in-Ok-None.ensures.reads in
    rw c.at.ensures (ends_at_end_tag c.args.header c.requires.0 _ (read_end (sym read.value)))

pub returns-in-Err : goal.returns-in-Err
returns-in-Err c =
    rw (c.reply_of.ensures, c.missing_of.ensures)
    (ends_at_stop c.args.header c.requires.0 _ (mapped_stops record_of (sym c.in-Err.ensures.reads.value)))

use Rattle.phd_record.specs.RecordReads.{make_record}
use Rattle.phd_record.proofs.head.Head.record.Goals as goal

pub returns : goal.returns
unfolding make_record
returns c = rw (c.row.ensures, c.push_if.ensures)

use Rattle.phd.specs.Phd.{row}
use Rattle.phd_record.proofs.head.Head.row.Goals as goal

pub returns : goal.returns
unfolding row
returns c = rw (c.field_or.ensures, c.field_or-upper.ensures, c.field_or-2.ensures, c.field_or-3.ensures)

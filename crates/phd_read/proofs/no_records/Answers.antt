use Rattle.std.proofs.Common.{refl}
use Rattle.phd.specs.Phd.{empty_header}
use Rattle.reader.specs.Reader.{no_records as no_records_of}
use Rattle.table.specs.Table.{row_count}
use Rattle.phd_read.specs.ReadContract.{read_answer}
use Rattle.phd_read.proofs.no_records.Goals as goal

pub returns : goal.returns
unfolding read_answer no_records_of empty_header row_count
returns c = refl

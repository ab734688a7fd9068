-- The header is empty, and there are no rows to make entries of.
use Rattle.std.proofs.Common.{refl}
use Rattle.table.specs.Table.{row_count}
use Rattle.table.specs.Rows.{rows_from, rows_of}
use Rattle.summaries.specs.Summaries.{keys_from, keys, summaries}
use Rattle.phd.specs.Phd.{empty_header}
use Rattle.reader.specs.Reader.{no_records as no_records_of}
use Rattle.phd_read.specs.ReadContract.{read_answer}
use Rattle.classes_read.specs.ClassesRead.{classes_answer}
use Rattle.phd_classes.proofs.begin.no_records.Goals as goal

pub returns : goal.returns
unfolding empty_header no_records_of read_answer classes_answer summaries keys keys_from rows_of rows_from row_count
returns c = refl

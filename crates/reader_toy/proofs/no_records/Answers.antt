use Rattle.std.proofs.Common.{refl}
use Rattle.reader.specs.Reader.{no_records as no_records_of}
use Rattle.table.specs.Table.{row_count}
use Rattle.reader_toy.specs.ReaderSpecs.{answer}
use Rattle.reader_toy.proofs.no_records.Goals as goal

pub returns : goal.returns
unfolding answer no_records_of row_count
returns c = refl

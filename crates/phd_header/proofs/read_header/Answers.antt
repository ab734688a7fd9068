use Rattle.std.proofs.Common.{refl}
use Rattle.decode.specs.Reads.{reads_stop_at}
use Rattle.phd_header.proofs.read_header.Goals as goal

pub returns-in-Err-clause-reads : goal.returns-in-Err-clause-reads
returns-in-Err-clause-reads c = reads_stop_at c.in-Err.ensures refl

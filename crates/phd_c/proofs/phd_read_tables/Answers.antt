-- The reply is that of the reading.
use Rattle.std.proofs.Common.{ap}
use Rattle.phd_read.specs.ReadContract.{read_answer}
use Rattle.phd_read.specs.declared.ReadAnswer.{ReadAnswer}
use Rattle.phd_c.proofs.phd_read_tables.Goals as goal

pub returns-clause-is : goal.returns-clause-is
unfolding read_answer
returns-clause-is c = ap (λ (x : ReadAnswer). x.reply) c.read_tables-r.ensures.is

-- `write_size` checks the tables, then the size limit.
use Rattle.table.specs.Refusals.{refusal_not_0, passed_on}
use Rattle.phd_write.specs.WriteOutcomes.{check_refusal}
use Rattle.phd_write.proofs.write_size.Goals as goal

pub returns-in_err-check : goal.returns-in_err-check
returns-in_err-check c = rw (passed_on c.from_residual.ensures) (check_refusal _ _ _ _ _ c.in_err-check.ensures.answer (refusal_not_0 _))

-- `text_size` refuses tables that are not good, and sizes others by a class index.
use Rattle.table.specs.Refusals.{refusal_not_0, passed_on}
use Rattle.classic_write.specs.TextOutcomes.{check_refusal}
use Rattle.classic_write.proofs.text_size.Goals as goal

pub returns-in_err-good : goal.returns-in_err-good
returns-in_err-good c = rw (passed_on c.from_residual.ensures) (check_refusal _ _ _ _ _ c.in_err-good.ensures.answer (refusal_not_0 _))

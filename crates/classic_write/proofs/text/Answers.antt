-- `text` refuses tables that are not good, and writes others by a class index.
use Rattle.table.specs.CheckOrder.{refused_unchanged}
use Rattle.table.specs.Refusals.{refusal_not_0, passed_on}
use Rattle.classic_write.specs.TextOutcomes.{check_refusal, size_query_agrees}
use Rattle.classic_write.proofs.text.Goals as goal

pub returns-in_err-good : goal.returns-in_err-good
returns-in_err-good c =
    let e = check_refusal _ _ _ _ _ c.in_err-good.ensures.answer (refusal_not_0 _) in
    let r = refused_unchanged c.args.out.now _ _ _ ((size_query_agrees _ _ _ _ _ _ e).refusal (refusal_not_0 _)) in
    record { is = rw (passed_on c.from_residual.ensures) r.0; out = r.1 }

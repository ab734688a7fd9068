-- The reply, the tables, the list and the answer are those of the reading with class summaries.
use Rattle.std.proofs.Common.{ap, ◌∙◌}
use Rattle.phd_read.specs.ReadContract.{read_answer}
use Rattle.classes_read.specs.ClassesRead.{classes_answer}
use Rattle.classes_read.specs.declared.ClassesAnswer.{ClassesAnswer}
use Rattle.phd_c.specs.Boundary.{classes_answer_numbers}
use Rattle.phd_c.proofs.phd_read.Goals as goal

pub returns : goal.returns
unfolding classes_answer read_answer
returns c =
    let r = c.read-r.ensures in
    let s = c.store_classes_answer.ensures in
    (s.0 ∙ ap (λ (x : ClassesAnswer). x.read.reply) r.0, r.1, r.2, r.3, s.1 ∙ ap classes_answer_numbers r.0)

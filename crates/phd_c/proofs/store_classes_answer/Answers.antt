-- The numbers are those of the reading's answer, with the number of entries at index 11.
use Rattle.std.proofs.Common.{refl}
use Rattle.phd_c.specs.Boundary.{classes_answer_numbers}
use Rattle.phd_c.proofs.store_classes_answer.Goals as goal

pub returns : goal.returns
unfolding classes_answer_numbers
returns c = (refl, rw c.read_answer_numbers-numbers.ensures)

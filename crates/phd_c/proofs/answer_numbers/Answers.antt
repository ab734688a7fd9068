use Rattle.std.proofs.Common.{refl}
use Rattle.phd_c.specs.Boundary.{answer_numbers}
use Rattle.phd_c.proofs.answer_numbers.Goals as goal

pub returns : goal.returns
unfolding answer_numbers
returns c = refl

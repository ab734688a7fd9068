-- The result is the conjunction of the tests.
use Rattle.phd_check.specs.GoodRows.{good_primitive}
use Rattle.phd_check.proofs.CheckLaws.{all_of_all_true}
use Rattle.phd_check.proofs.numbers.primitive_good.Goals as goal

pub returns : goal.returns
unfolding good_primitive
returns c = rw c.name_absent.ensures (all_of_all_true _ _)

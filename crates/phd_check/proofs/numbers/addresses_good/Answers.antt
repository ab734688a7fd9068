-- The result is the conjunction of the tests.
use Rattle.phd_check.specs.GoodRows.{good_addresses}
use Rattle.phd_check.proofs.CheckLaws.{all_of_all_true}
use Rattle.phd_check.proofs.numbers.addresses_good.Goals as goal

pub returns : goal.returns
unfolding good_addresses
returns c = all_of_all_true _ _

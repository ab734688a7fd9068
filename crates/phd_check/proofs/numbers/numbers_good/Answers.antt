-- The result is the conjunction of the tests.
use Rattle.phd_check.specs.GoodRows.{good_numbers}
use Rattle.phd_check.proofs.CheckLaws.{all_of_all_true}
use Rattle.phd_check.proofs.numbers.numbers_good.Goals as goal

pub returns : goal.returns
unfolding good_numbers
returns c =
    rw (c.kind_good.ensures, c.hash_good.ensures, c.span_good.ensures, c.addresses_good.ensures, c.max_address_of-top.ensures) (all_of_all_true _ _)

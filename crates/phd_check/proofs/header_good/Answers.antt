-- The result is the conjunction of the tests.
use Rattle.table.specs.Table.{row_count}
use Rattle.table.specs.Rows.{length_rows}
use Rattle.phd_check.specs.GoodRows.{good_header}
use Rattle.phd_check.proofs.CheckLaws.{all_of_all_true}
use Rattle.phd_check.proofs.header_good.Goals as goal

pub returns : goal.returns
unfolding good_header row_count
returns c = rw (length_rows, c.vm_good.ensures) (all_of_all_true _ _)

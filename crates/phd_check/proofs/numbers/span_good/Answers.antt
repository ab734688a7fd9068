-- The result is the conjunction of the tests, one of which compares a difference instead of a sum.
use Rattle.std.proofs.Common.{◌+◌, sym, arith}
use Rattle.std.proofs.lemmas.Bool.{lt-leb}
use Rattle.phd_check.specs.GoodRows.{good_span}
use Rattle.phd_check.proofs.CheckLaws.{all_true_false, all_of_all_true, leb_sum}
use Rattle.phd_check.proofs.numbers.span_good.Goals as goal

pub returns-then-n-r : goal.returns-then-n-r
unfolding good_span
returns-then-n-r c = let a = c.args in sym (all_true_false _ 1 (lt-leb (a.r.first + a.r.count) a.available (omega arith)))

pub returns : goal.returns
unfolding good_span
returns c = let a = c.args in rw (leb_sum a.r.first a.r.count a.available (omega arith)) (all_of_all_true _ _)

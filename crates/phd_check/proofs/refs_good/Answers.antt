-- The result so far and the references that are left give the result of all.
use Rattle.std.proofs.Common.{sym, ◌∙◌, arith, drop_of_length-le}
use Rattle.std.proofs.Math.Bool.{and-true}
use Rattle.phd_check.specs.GoodRows.{good_refs}
use Rattle.phd_check.proofs.CheckLaws.{good_refs_from}
use Rattle.phd_check.proofs.refs_good.Goals as goal

pub loop-a-preserved : goal.loop-a-preserved
loop-a-preserved c =
    rw c.ref_good-good.ensures (sym (good_refs_from _ _ c.loop-a.a-index c.loop-a.good (omega arith)) ∙ c.loop-a.invariant)

pub returns : goal.returns
unfolding good_refs
returns c =
    rw (drop_of_length-le c.args.refs.now {i = c.loop-a.a-index} (omega arith), and-true) at c.loop-a.invariant

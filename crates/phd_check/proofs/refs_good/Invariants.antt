use Rattle.std.proofs.Common.{◌≡◌, ◌&&◌, drop}
use Rattle.phd_check.specs.GoodRows.{good_refs}
use Rattle.phd_check.proofs.refs_good.Given as goal

-- The result so far and the references that are left give the result of all.
abbrev pub invariant-loop-a : goal.invariant-loop-a
invariant-loop-a l = l.good && good_refs l.top (drop l.a-index l.refs) ≡ good_refs l.top l.refs

-- The search in the buckets that are left gives the result.
use Rattle.summary_index.proofs.FindSteps.{FindLeft}
use Rattle.summary_index.proofs.find.Given as goal

abbrev pub invariant-loop-at : goal.invariant-loop-at
invariant-loop-at l = FindLeft l.buckets l.key l.at

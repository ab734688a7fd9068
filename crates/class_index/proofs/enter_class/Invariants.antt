-- The invariant of `enter_class`: until a bucket is taken, the buckets are as they were.
use Rattle.std.proofs.Common.{◌≡◌}
use Rattle.class_index.proofs.enter_class.Given as goal

abbrev pub invariant-loop-at : goal.invariant-loop-at
invariant-loop-at l = l.buckets ≡ l.fn.buckets

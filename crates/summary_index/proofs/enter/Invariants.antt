-- Until an empty bucket is found, the buckets are as they were, and those that the search looks at before it are not empty.
use Rattle.std.proofs.Common.{◌≡◌, ℕ, ◌≤◌, ◌<◌}
use Rattle.std.specs.Prelude.{None}
use Rattle.summary_index.specs.SummaryIndex.{bucket_key, bucket_at}
use Rattle.summary_index.proofs.enter.Given as goal

abbrev pub invariant-loop-at : goal.invariant-loop-at
invariant-loop-at l = record {
  same : l.buckets ≡ l.fn.buckets;
  full : (d : ℕ) → l.first ≤ d → d < l.at → bucket_key (bucket_at l.fn.buckets d) ≡ None → ⊥;
}

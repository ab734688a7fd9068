-- `probed` satisfies its contract.
use Rattle.class_index.proofs.BucketSteps.{probed_slice}
use Rattle.class_index.proofs.probed.Goals as goal

pub returns : goal.returns
returns c = rw (← c.first_bucket.ensures.is) (probed_slice c.args.buckets.now _ _ _ c.min-first.ensures c.min.ensures)

-- The search for a key, bucket by bucket, as the loop of `find` goes; and that no bucket has a key whose mark is neither 0 nor 1.
-- Assumes nothing.
use Rattle.std.proofs.Common.{◌≡◌, ℕ, zero, suc, ◌+◌, ◌-◌, ◌≤◌, ◌<◌, false, List, refl, sym, ◌∙◌, arith, ne_eqb}
use Rattle.std.specs.Prelude.{Option, Some, None}
use Rattle.summaries.specs.declared.Key.{Key}
use Rattle.summaries.specs.declared.Key.TheVariants.{Class, Primitive}
use Rattle.summaries.specs.Summaries.{Key as DefinedKey, same_key}
use Rattle.summaries.specs.SummaryKeys.{same_self}
use Rattle.summaries.specs.EntrySteps.{numbers, numbers_differ}
use Rattle.summary_index.specs.declared.Bucket.{Bucket}
use Rattle.summary_index.specs.SummaryIndex.{first_bucket, bucket_key, bucket_at, search_step, find_from, find}

module _ (buckets : List Bucket) (k : Key) where
  -- The search in the buckets that are left gives the result.
  pub record FindLeft (at : ℕ) : Type 0 where
    pub same : find_from buckets (numbers k) at (first_bucket (numbers k) + 64 - at) ≡ find buckets (numbers k)

  pub find_start : (at : ℕ) → at ≡ first_bucket (numbers k) → FindLeft at
  unfolding find
  find_start at e = record { same = let n : first_bucket (numbers k) + 64 - first_bucket (numbers k) ≡ 64 = omega arith in rw (e, n) }

  module _ (at : ℕ) (s : FindLeft at) where
    pub find_end : first_bucket (numbers k) + 64 ≤ at → None ≡ find buckets (numbers k)
    unfolding find_from
    find_end l = let n : first_bucket (numbers k) + 64 - at ≡ 0 = omega arith in rw n at s.same

    module _ (l : at < first_bucket (numbers k) + 64) where
      step : find buckets (numbers k)
          ≡ search_step (numbers k) (bucket_key (bucket_at buckets at)) (bucket_at buckets at).entry (find_from buckets (numbers k) (at + 1) (first_bucket (numbers k) + 64 - (at + 1)))
      unfolding find_from
      step =
          let e : first_bucket (numbers k) + 64 - at ≡ suc (first_bucket (numbers k) + 64 - (at + 1)) = omega arith in
          sym s.same ∙ rw e

      -- An empty bucket ends the search.
      pub find_empty : bucket_key (bucket_at buckets at) ≡ None → None ≡ find buckets (numbers k)
      find_empty e = rw (step, e)

      module _ (j : Key) (is : bucket_key (bucket_at buckets at) ≡ Some j) where
        -- A bucket that has the key ends it too.
        pub find_hit : j ≡ k → Some (bucket_at buckets at).entry ≡ find buckets (numbers k)
        find_hit e = rw (step, is, e, same_self (numbers k))

        -- Any other bucket is passed over.
        pub find_next : (j ≡ k → ⊥) → FindLeft (at + 1)
        find_next n = record { same = rw (step, is, numbers_differ j k n) }

-- A key whose mark is neither 0 nor 1 is in no bucket.
module _ (buckets : List Bucket) (k : DefinedKey) (other : 1 < k.mark) where
  differs : (j : Key) → same_key (numbers j) k ≡ false
  unfolding same_key
  differs (Class class) = rw (ne_eqb 0 k.mark (λ e. omega arith))
  differs (Primitive prim) = rw (ne_eqb 1 k.mark (λ e. omega arith))

  none_from : (b n : ℕ) → find_from buckets k b n ≡ None
  unfolding find_from
  none_from b zero = refl
  none_from b (suc n) = by (bucket_key (bucket_at buckets b)) (none_from (b + 1) n)
    where
      by : (o : Option Key) → find_from buckets k (b + 1) n ≡ None → search_step k o (bucket_at buckets b).entry (find_from buckets k (b + 1) n) ≡ None
      by None h = refl
      by (Some j) h = rw (differs j) h

  pub find_nothing : find buckets k ≡ None
  unfolding find
  find_nothing = none_from (first_bucket k) 64

-- The summary index: buckets that lead from the keys of class summaries to their entries, and the search in them, whatever they hold.
-- `IndexHolds` is what the passes over rows know of it.
-- No definition of a result uses it. A reader need not believe it.
use Rattle.std.specs.Prelude.{◌≡◌, Bool, List, get_or, Option, Some, None}
use Rattle.std.proofs.Math.Path.{refl}
use Rattle.std.proofs.Common.{◌∙◌}
use Prim.Native.Nat.{ℕ, zero, suc, ◌+◌, ◌/◌, ◌<◌}
use Rattle.std.proofs.Math.Bool.{true, false, cond}
use Rattle.std.proofs.Math.ListN.{length}
use Rattle.address_hash.specs.AddressHash.{hash}
use Rattle.summaries.specs.declared.Key.{Key as CodeKey}
use Rattle.summaries.specs.declared.Key.TheVariants.{Class, Primitive}
use Rattle.summaries.specs.Summaries.{Key, same_key}
use Rattle.summaries.specs.SummaryKeys.{same_true}
use Rattle.summaries.specs.EntrySteps.{numbers}
use Rattle.summary_index.specs.declared.Bucket.{Bucket}
use Rattle.summary_index.specs.declared.Of.{Of}
use Rattle.summary_index.specs.declared.Of.TheVariants as of

abbrev pub make_key : (class mark : ℕ) → Key
make_key class mark = record { mark = mark; class = class }

-- The bucket, of 32,768, at which the search for a key begins.
unfoldable pub first_bucket : Key → ℕ
first_bucket k = hash k.class / 0x2_0000

-- A bucket of nothing, and that of a key with its entry.
abbrev pub empty : Bucket
empty = record { class = 0; entry = 0; of = of.Nothing }

abbrev pub bucket_of : CodeKey → ℕ → Bucket
bucket_of (Class class) entry = record { class = class; entry = entry; of = of.Class }
bucket_of (Primitive prim) entry = record { class = prim; entry = entry; of = of.Primitive }

-- The key of a bucket, if it is not empty.
abbrev pub key_in : Of → ℕ → Option CodeKey
key_in of.Nothing class = None
key_in of.Class class = Some (Class class)
key_in of.Primitive class = Some (Primitive class)

abbrev pub bucket_key : Bucket → Option CodeKey
bucket_key b = key_in b.of b.class

-- Bucket i; an empty one after the end.
abbrev pub bucket_at : List Bucket → ℕ → Bucket
bucket_at buckets i = get_or buckets i empty

-- What a search makes of a bucket, by its key: an empty one ends it without a result, one that has the key with its entry, and after any other
-- the search goes on.
abbrev pub search_step : Key → Option CodeKey → (entry : ℕ) → (rest : Option ℕ) → Option ℕ
search_step k None entry rest = None
search_step k (Some j) entry rest = cond (same_key (numbers j) k) (Some entry) rest

-- The search for a key in n buckets from bucket b on.
unfoldable pub find_from : List Bucket → Key → ℕ → ℕ → Option ℕ
find_from buckets k b zero = None
find_from buckets k b (suc n) = search_step k (bucket_key (bucket_at buckets b)) (bucket_at buckets b).entry (find_from buckets k (b + 1) n)

-- The search for a key.
unfoldable pub find : List Bucket → Key → Option ℕ
find buckets k = find_from buckets k (first_bucket k) 64

-- Key i of a list.
abbrev pub key_at : List Key → ℕ → Key
key_at ks i = get_or ks i (make_key 0 0)

-- The buckets are an index of the keys: each leads to the entry whose key it has; and if the index is complete, the search for each key
-- finds its entry.
pub record IndexHolds (ks : List Key) (buckets : List Bucket) (complete : Bool) : Type 0 where
  pub sound : (b : ℕ) (j : CodeKey) → bucket_key (bucket_at buckets b) ≡ Some j
      → ((bucket_at buckets b).entry < length ks) × (key_at ks (bucket_at buckets b).entry ≡ numbers j)
  pub finds : complete ≡ true → (i : ℕ) → i < length ks → find buckets (key_at ks i) ≡ Some i

-- ---- what a search means

module _ {ks : List Key} {buckets : List Bucket} {complete : Bool} (w : IndexHolds ks buckets complete) (k : Key) where
  -- The search found the key in bucket b.
  pub has_means : (b : ℕ) (j : CodeKey) → bucket_key (bucket_at buckets b) ≡ Some j → same_key (numbers j) k ≡ true
      → ((bucket_at buckets b).entry < length ks) × (key_at ks (bucket_at buckets b).entry ≡ k)
  has_means b j e s = let h = w.sound b j e in (h.0, h.1 ∙ same_true (numbers j) k s)

  found_from : (b n i : ℕ) → find_from buckets k b n ≡ Some i → (i < length ks) × (key_at ks i ≡ k)
  unfolding find_from
  found_from b zero i e = absurd (cc)
  found_from b (suc n) i e = by (bucket_key (bucket_at buckets b)) refl e (found_from (b + 1) n i)
    where
      hit : (j : CodeKey) (h : Bool) → bucket_key (bucket_at buckets b) ≡ Some j → same_key (numbers j) k ≡ h
          → cond h (Some (bucket_at buckets b).entry) (find_from buckets k (b + 1) n) ≡ Some i
          → (find_from buckets k (b + 1) n ≡ Some i → (i < length ks) × (key_at ks i ≡ k)) → (i < length ks) × (key_at ks i ≡ k)
      hit j true q s e rest = let m : (bucket_at buckets b).entry ≡ i = cc in rw m at (has_means b j q s)
      hit j false q s e rest = rest e

      by : (o : Option CodeKey) → bucket_key (bucket_at buckets b) ≡ o
          → search_step k o (bucket_at buckets b).entry (find_from buckets k (b + 1) n) ≡ Some i
          → (find_from buckets k (b + 1) n ≡ Some i → (i < length ks) × (key_at ks i ≡ k)) → (i < length ks) × (key_at ks i ≡ k)
      by None q e rest = absurd (cc)
      by (Some j) q e rest = hit j (same_key (numbers j) k) q refl e rest

  -- A key that is found is that of the entry.
  pub found : (i : ℕ) → find buckets k ≡ Some i → (i < length ks) × (key_at ks i ≡ k)
  unfolding find
  found i e = found_from (first_bucket k) 64 i e

  -- If the index is complete, a key that is not found is no entry's.
  pub not_found : complete ≡ true → find buckets k ≡ None → (i : ℕ) → i < length ks → key_at ks i ≡ k → ⊥
  not_found c e i l q = let f = rw q at (w.finds c i l) in cc

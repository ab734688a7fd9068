-- The search for the entry of a key, from an entry before which none has it, finds the entry at the place of the key.
-- Assumes nothing.
use Rattle.std.proofs.Common.{◌≡◌, ℕ, ◌-◌, ◌≤◌, ◌<◌, List, length, take, map, sym, ◌∙◌, arith}
use Rattle.table.specs.Rows.{rows_of}
use Rattle.summaries.specs.declared.Summary.{Summary}
use Rattle.summaries.specs.Summaries.{Key, its_key}
use Rattle.summary_index.specs.declared.Bucket.{Bucket}
use Rattle.summary_index.specs.SummaryIndex.{key_at}
use Rattle.summary_list.specs.EntryList.{find_entry}
use Rattle.summary_pass.specs.declared.Tally.{Tally}
use Rattle.summary_pass.specs.PassState.{place_of, IndexState, FromBefore, keys_counted, TallyHolds, ListHolds}
use Rattle.summary_pass.specs.PassLists.{entry_place}
use Rattle.summary_pass.specs.PassSteps.{entries_keys}

-- As each key is there once, no entry before one that has the key has it.
pub from_entry : {buckets : List Bucket} {t : Tally} {k : Key} {ks : List Key} → IndexState ks buckets t → (i : ℕ) → (i < length ks) × (key_at ks i ≡ k)
    → (i ≤ length ks) × ((n : ℕ) → n < i → key_at ks n ≡ k → ⊥)
from_entry s i h = (omega (arith, h.0), λ n m q. let same = s.once n i (omega (arith, h.0)) h.0 (q ∙ sym h.1) in omega arith)

module _ {rows : List ℕ} {buckets : List Bucket} {classes : List Summary} {t : Tally} {z : ℕ} (w : TallyHolds rows buckets t) (v : ListHolds rows classes t z)
    (k : Key) (from : ℕ) (f : FromBefore buckets t k from) where
  pub from_in : (from ≤ t.used) × (t.used ≤ length classes)
  from_in = let h = f (keys_counted rows t) w.index in (omega (arith, h.0, w.index.used), v.used_in)

  list_keys : map its_key (take t.used classes) ≡ keys_counted rows t
  list_keys = rw v.entries (entries_keys (rows_of rows) t.counted z)

  pub found_place : find_entry classes k from (t.used - from) ≡ place_of k (keys_counted rows t)
  found_place =
      let h = f (keys_counted rows t) w.index in
      entry_place classes k from t.used from_in.0 from_in.1 (λ i l e. h.1 i l (rw list_keys at e)) ∙ rw list_keys

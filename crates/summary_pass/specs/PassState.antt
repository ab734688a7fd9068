-- What is known of the rows that have been counted, and of the list of class summaries then.
-- Assumes nothing. A reader need not believe it: the contract of the reading does not use it.
use Rattle.std.specs.Prelude.{◌≡◌, ℕ, suc, ◌^◌, ◌≤◌, ◌<◌, true, cond, List, [], ◌∷◌, Some, None, length, take, drop}
use Rattle.table.specs.Table.{row_count}
use Rattle.table.specs.Rows.{is_kind, rows_of, nth}
use Rattle.summaries.specs.declared.Summary.{Summary}
use Rattle.summaries.specs.declared.Key.{Key as CodeKey}
use Rattle.summaries.specs.Summaries.{Key, same_key, keys, summaries}
use Rattle.summaries.specs.EntrySteps.{numbers}
use Rattle.summaries.specs.ClassRowsLast.{entries_after}
use Rattle.summaries.specs.EntryBounds.{SmallRow}
use Rattle.summary_index.specs.declared.Bucket.{Bucket}
use Rattle.summary_index.specs.SummaryIndex.{key_at, IndexHolds}
use Rattle.summary_pass.specs.declared.Tally.{Tally}

-- The tally before the first row.
abbrev pub first_tally : Tally
first_tally = record { counted = 0; used = 0; complete = true; last = None; lowest = 0; above = 0 }

-- The place of a key in a list: the index of the first that is the same; if none is, their number.
unfoldable pub place_of : Key → List Key → ℕ
place_of j [] = 0
place_of j (k ∷ ks) = cond (same_key j k) 0 (suc (place_of j ks))

-- The summary index of the keys ks, as a tally knows it.
pub record IndexState (ks : List Key) (buckets : List Bucket) (t : Tally) : Type 0 where
  pub used : t.used ≡ length ks
  pub index : IndexHolds ks buckets t.complete
  pub last : (j : CodeKey) (i : ℕ) → t.last ≡ Some (j, i) → (i < length ks) × (key_at ks i ≡ numbers j)
  pub once : (i j : ℕ) → i < length ks → j < length ks → key_at ks i ≡ key_at ks j → i ≡ j

-- No entry before index `from` has the key.
abbrev pub FromBefore : (buckets : List Bucket) → Tally → Key → (from : ℕ) → Type 0
FromBefore buckets t k from = (ks : List Key) → IndexState ks buckets t → (from ≤ length ks) × ((i : ℕ) → i < from → key_at ks i ≡ k → ⊥)

-- The keys of the rows counted.
abbrev pub keys_counted : List ℕ → Tally → List Key
keys_counted rows t = keys (take t.counted (rows_of rows))

-- A tally of the first rows of a table.
pub record TallyHolds (rows : List ℕ) (buckets : List Bucket) (t : Tally) : Type 0 where
  pub counted_in : t.counted ≤ row_count rows
  pub counted_few : t.counted ≤ 2 ^ 30
  pub index : IndexState (keys_counted rows t) buckets t
  pub small : (i : ℕ) → i < t.counted → SmallRow (nth (rows_of rows) i)
  pub class_rows : (i : ℕ) → i < t.counted → is_kind 1 (nth (rows_of rows) i) ≡ true → (t.lowest ≤ i) × (i < t.above)
  pub class_rows_in : t.above ≤ t.counted
  pub lowest_in : t.lowest ≤ t.counted
  pub range_in : t.lowest ≤ t.above

-- The list of class summaries then: the entries in use are those of the rows counted, sized by the class rows among the first z rows.
pub record ListHolds (rows : List ℕ) (classes : List Summary) (t : Tally) (z : ℕ) : Type 0 where
  pub entries : take t.used classes ≡ entries_after (rows_of rows) t.counted z
  pub used_in : t.used ≤ length classes

-- The rows before row `end` can be counted: there are so many, their numbers are small, and the list has an entry for each of their keys.
pub record CanCount (rows : List ℕ) (classes : List Summary) (end : ℕ) : Type 0 where
  pub end_in : end ≤ row_count rows
  pub end_few : end ≤ 2 ^ 30
  pub small : (i : ℕ) → i < end → SmallRow (nth (rows_of rows) i)
  pub enough : length (keys (take end (rows_of rows))) ≤ length classes

-- The rows before row `end` have been counted, after the tally t and the list `classes`.
pub record Counted (rows : List ℕ) (classes : List Summary) (t : Tally) (end : ℕ) (buckets' : List Bucket) (classes' : List Summary) (t' : Tally) : Type 0 where
  pub holds : TallyHolds rows buckets' t'
  pub list : ListHolds rows classes' t' 0
  pub counted : t'.counted ≡ end
  pub used_le : t.used ≤ t'.used
  pub rest : drop t'.used classes' ≡ drop t'.used classes

-- The objects that wait can be given their bytes by the class rows before row `to`: there are so many rows, and their numbers are small.
pub record CanSize (rows : List ℕ) (to : ℕ) : Type 0 where
  pub to_in : to ≤ row_count rows
  pub small : (i : ℕ) → i < to → SmallRow (nth (rows_of rows) i)

-- The class rows among the first z rows have sized the entries in use, and no other entry has changed.
pub record Sized (rows : List ℕ) (classes : List Summary) (t : Tally) (z : ℕ) (classes' : List Summary) : Type 0 where
  pub list : ListHolds rows classes' t z
  pub rest : drop t.used classes' ≡ drop t.used classes

-- All class rows have: the entries in use are the class summaries of the rows counted.
pub record SizedAll (rows : List ℕ) (classes : List Summary) (t : Tally) (classes' : List Summary) : Type 0 where
  pub entries : take t.used classes' ≡ summaries (take t.counted (rows_of rows))
  pub rest : drop t.used classes' ≡ drop t.used classes

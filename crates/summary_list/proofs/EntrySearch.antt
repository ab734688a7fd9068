-- The search of `find_entry`, turn by turn: from each place that it passes it ends at the index at which the whole search ends.
-- Assumes nothing.
use Rattle.std.proofs.Common.{◌≡◌, ℕ, suc, ◌+◌, ◌-◌, ◌<◌, ◌≤◌, true, false, List, get_or, add-one, arith}
use Rattle.summaries.specs.declared.Summary.{Summary}
use Rattle.summaries.specs.Summaries.{Key, same_key, its_key}
use Rattle.summary_list.specs.EntryList.{blank, find_entry}

module _ (ys : List Summary) (k : Key) (used i : ℕ) where
  -- The search goes on after an entry that has another key.
  pub passed : i < used → same_key k (its_key (get_or ys i blank)) ≡ false → find_entry ys k (i + 1) (used - (i + 1)) ≡ find_entry ys k i (used - i)
  unfolding find_entry
  passed l miss = let e : used - i ≡ suc (used - (i + 1)) = omega arith in rw (e, miss, add-one i)

  -- The search ends at an entry that has the key.
  pub found : i < used → same_key k (its_key (get_or ys i blank)) ≡ true → find_entry ys k i (used - i) ≡ i
  unfolding find_entry
  found l hit = let e : used - i ≡ suc (used - (i + 1)) = omega arith in rw (e, hit)

  -- It ends after the last entry in use.
  pub over : used ≤ i → find_entry ys k i (used - i) ≡ i
  unfolding find_entry
  over l = let e : used - i ≡ 0 = omega arith in rw e

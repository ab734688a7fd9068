-- How many keys rows have: a row adds at most one.
-- Assumes nothing.
use Rattle.std.specs.Prelude.{suc, ◌+◌, ◌≤◌, Bool, true, false, cond, List, [], ◌∷◌, ◌++◌, length}
use Rattle.std.proofs.Common.{arith}
use Rattle.table.specs.Rows.{is_kind}
use Rattle.table.specs.declared.Row.{Row}
use Rattle.summaries.specs.Summaries.{Key, same_key, key_of, alter, with_key, keyed, keys_from, keys}
use Rattle.summaries.specs.SummaryKeys.{keys_append}

with_length : (j : Key) (ks : List Key) → (length ks ≤ length (with_key j ks)) × (length (with_key j ks) ≤ suc (length ks))
unfolding with_key alter
with_length j [] = (omega arith, omega arith)
with_length j (k ∷ ks) = by (same_key j k) (with_length j ks)
  where
    by : (b : Bool) → (length ks ≤ length (with_key j ks)) × (length (with_key j ks) ≤ suc (length ks))
        → (suc (length ks) ≤ length (cond b (k ∷ ks) (k ∷ with_key j ks))) × (length (cond b (k ∷ ks) (k ∷ with_key j ks)) ≤ suc (suc (length ks)))
    by true h = (omega arith, omega arith)
    by false h = (omega (arith, h.0), omega (arith, h.1))

-- A list with a key has at most one key more, and at least as many.
pub keyed_length : (r : Row) (ks : List Key) → (length ks ≤ length (keyed r ks)) × (length (keyed r ks) ≤ suc (length ks))
unfolding keyed
keyed_length r ks = by (is_kind 1 r) (with_length (key_of r) ks)
  where
    by : (b : Bool) → (length ks ≤ length (with_key (key_of r) ks)) × (length (with_key (key_of r) ks) ≤ suc (length ks))
        → (length ks ≤ length (cond b ks (with_key (key_of r) ks))) × (length (cond b ks (with_key (key_of r) ks)) ≤ suc (length ks))
    by true h = (omega arith, omega arith)
    by false h = h

pub keys_from_length : (ks : List Key) (rows : List Row) → (length ks ≤ length (keys_from ks rows)) × (length (keys_from ks rows) ≤ length ks + length rows)
unfolding keys_from
keys_from_length ks [] = (omega arith, omega arith)
keys_from_length ks (r ∷ rows) =
    let h = keyed_length r ks in
    let t = keys_from_length (keyed r ks) rows in
    (omega (arith, h.0, h.1, t.0, t.1), omega (arith, h.0, h.1, t.0, t.1))

-- There are no more keys than rows.
pub keys_le : (rows : List Row) → length (keys rows) ≤ length rows
unfolding keys
keys_le rows = let t = keys_from_length [] rows in omega (arith, t.1)

-- More rows have at least as many keys.
pub keys_grow : (a b : List Row) → length (keys a) ≤ length (keys (a ++ b))
unfolding keys
keys_grow a b = rw (keys_append [] a b) (keys_from_length (keys_from [] a) b).0

-- The search by buckets, bucket by bucket, as the loop goes.
-- Assumes nothing.
use Rattle.std.specs.Prelude.{◌≡◌, refl, ℕ, suc, min, ◌+◌, ◌-◌, ◌≤◌, ◌<◌, true, false, cond, List, [], eqb, length, get_or, take, drop, Some, None}
use Rattle.std.proofs.Common.{sym, ◌∙◌, arith, add-one, length-drop, drop-cons, take_all, lt-ltb, le-ltb, eq-eqb, ne_eqb}
use Prim.Native.Nat.{zero}
use Rattle.std.proofs.lemmas.List.{drop_all}
use Rattle.std.proofs.Math.Decide.{dec_le}
use Rattle.table.specs.Table.{row_count}
use Rattle.table.specs.Rows.{row_at, rows_of, length_rows, nth_row}
use Rattle.table.specs.declared.Row.{Row}
use Rattle.table.specs.RowBytes.{is_class_at, is_class_at_iff}
use Rattle.class_index.specs.ClassIndex.{first_bucket, is_class_row, search_in, search_buckets}

-- ---- a row

-- The test of a row of a table is `is_class_row`.
pub class_row_test : (table : List ℕ) (i a : ℕ) (r : Row) → i < row_count table → r ≡ row_at table i → is_class_at a r ≡ is_class_row (rows_of table) a i
unfolding is_class_row
class_row_test table i a r l e = rw (length_rows table, lt-ltb _ _ l, nth_row table i l, e)

-- Where there is no row, there is no class row.
pub no_class_row : (table : List ℕ) (i a : ℕ) → row_count table ≤ i → false ≡ is_class_row (rows_of table) a i
unfolding is_class_row
no_class_row table i a l = rw (length_rows table, le-ltb _ _ l)

-- A row of kind 1 is a class row with its address.
pub class_row_of : (table : List ℕ) (i : ℕ) (r : Row) → i < row_count table → r ≡ row_at table i → r.kind ≡ 1 → is_class_row (rows_of table) r.address i ≡ true
class_row_of table i r l e k = sym (class_row_test table i r.address r l e) ∙ (is_class_at_iff r.address r).1 (record { kind = k; address = refl })

-- ---- the search

-- The buckets that a search looks at, as a slice of all buckets.
pub probed_slice : (buckets : List ℕ) (first from end : ℕ) → from ≡ min first (length buckets) → end ≡ min (length buckets) (from + 64)
    → take (end - from) (drop from buckets) ≡ take 64 (drop first buckets)
probed_slice buckets first from end e f = elim (dec_le first (length buckets)) [
  | yes l ↦ let p : from ≡ first = omega arith in rw p (whole (drop first buckets) (end - first) (let d = length-drop first buckets in omega arith))
  | no l ↦ let n = drop_all first buckets (omega arith) in let m = drop_all from buckets (omega arith) in rw (n, m, take_nothing (end - from), take_nothing 64)
]
  where
    take_nothing : (n : ℕ) → take {A = ℕ} n [] ≡ []
    take_nothing zero = refl
    take_nothing (suc n) = refl

    -- Of at most 64 buckets.
    whole : (xs : List ℕ) (n : ℕ) → n ≡ min (length xs) 64 → take n xs ≡ take 64 xs
    whole xs n m = elim (dec_le 64 (length xs)) [
      | yes l ↦ let q : n ≡ 64 = omega arith in rw q
      | no l ↦ take_all n xs (omega arith) ∙ sym (take_all 64 xs (omega arith))
    ]

module _ (rows : List Row) (a : ℕ) (buckets : List ℕ) where
  -- The search in the buckets from one on looks at this bucket first.
  search_step : (at : ℕ) → at < length buckets → let entry = get_or buckets at 0 in
      search_in rows a (drop at buckets) ≡ cond (eqb entry 0) None (cond (is_class_row rows a (entry - 1)) (Some (entry - 1)) (search_in rows a (drop (at + 1) buckets)))
  unfolding search_in
  search_step at l = rw (add-one, drop-cons buckets at 0 l)

  -- An empty bucket ends it.
  pub bucket_empty : (at : ℕ) → at < length buckets → get_or buckets at 0 ≡ 0 → search_in rows a (drop at buckets) ≡ None
  bucket_empty at l e = rw (search_step at l, eq-eqb _ _ e)

  -- A bucket that leads to a class row with the address ends it too.
  pub bucket_found : (at : ℕ) → at < length buckets → (get_or buckets at 0 ≡ 0 → ⊥) → is_class_row rows a (get_or buckets at 0 - 1) ≡ true
      → search_in rows a (drop at buckets) ≡ Some (get_or buckets at 0 - 1)
  bucket_found at l n t = rw (search_step at l, ne_eqb _ _ n, t)

  -- Any other bucket is passed over.
  pub bucket_next : (at : ℕ) → at < length buckets → (get_or buckets at 0 ≡ 0 → ⊥) → is_class_row rows a (get_or buckets at 0 - 1) ≡ false
      → search_in rows a (drop at buckets) ≡ search_in rows a (drop (at + 1) buckets)
  bucket_next at l n t = rw (search_step at l, ne_eqb _ _ n, t)

  -- After the last bucket, it finds none.
  pub bucket_end : (at : ℕ) → length buckets ≤ at → search_in rows a (drop at buckets) ≡ None
  unfolding search_in
  bucket_end at l = rw (drop_all at buckets l)

-- The search in the buckets that it looks at is the search.
pub probed_search : (rows : List Row) (buckets : List ℕ) (a : ℕ) (probed : List ℕ) → probed ≡ take 64 (drop (first_bucket (length buckets) a) buckets) → search_in rows a probed ≡ search_buckets rows buckets a
unfolding search_buckets
probed_search rows buckets a probed e = rw e

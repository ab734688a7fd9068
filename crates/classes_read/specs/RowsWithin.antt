-- How many rows a list of entries is enough for: the theorem that says what `rows_within` is, and that it grows with the list and the rows.
-- Assumes nothing.
use Rattle.std.specs.Prelude.{◌≡◌, Bool, take}
use Rattle.std.proofs.Math.Path.{refl}
use Prim.Native.Nat.{ℕ, suc, ◌≤◌, ◌<◌}
use native.Mathlib.Omega.{arith}
use Rattle.std.proofs.Math.Bool.{true, false, cond}
use mathlib.Core.List.{List, [], ◌∷◌, ◌++◌}
use Rattle.std.proofs.Math.Dec.{leb}
use Rattle.std.proofs.Math.ListN.{length}
use borrow.Author.Tests.{leb-true, le-leb, lt-leb, leb-false}
use Rattle.table.specs.declared.Row.{Row}
use Rattle.summaries.specs.Summaries.{Key, keyed, keys_from, keys}
use Rattle.summaries.specs.KeyCounts.{keys_from_length}
use Rattle.classes_read.specs.ClassesRead.{rows_within_from, rows_within}

module _ (C : ℕ) where
  -- If there are entries for all rows.
  within_all_from : (ks : List Key) (rows : List Row) → length (keys_from ks rows) ≤ C → rows_within_from C ks rows ≡ length rows
  unfolding rows_within_from keys_from
  within_all_from ks [] l = refl
  within_all_from ks (r ∷ rows) l =
      let h = (keys_from_length (keyed r ks) rows).0 in
      let e : length (keyed r ks) ≤ C = omega arith in
      rw (le-leb _ _ e, within_all_from (keyed r ks) rows l)

  pub within_all : (rows : List Row) → length (keys rows) ≤ C → rows_within C rows ≡ length rows
  unfolding rows_within keys
  within_all rows l = within_all_from [] rows l

  -- If there are entries for the rows a, but not for the row r after them.
  within_until_from : (ks : List Key) (a : List Row) (r : Row) (b : List Row) → length (keys_from ks a) ≤ C → C < length (keyed r (keys_from ks a)) → rows_within_from C ks (a ++ (r ∷ b)) ≡ length a
  unfolding rows_within_from keys_from
  within_until_from ks [] r b l m = rw (lt-leb _ _ m)
  within_until_from ks (x ∷ a) r b l m =
      let h = (keys_from_length (keyed x ks) a).0 in
      let e : length (keyed x ks) ≤ C = omega arith in
      rw (le-leb _ _ e, within_until_from (keyed x ks) a r b l m)

  pub within_until : (a : List Row) (r : Row) (b : List Row) → length (keys a) ≤ C → C < length (keyed r (keys a)) → rows_within C (a ++ (r ∷ b)) ≡ length a
  unfolding rows_within keys
  within_until a r b l m = within_until_from [] a r b l m

  -- There are entries for the rows within.
  fits_from : (ks : List Key) (rows : List Row) → length ks ≤ C → length (keys_from ks (take (rows_within_from C ks rows) rows)) ≤ C
  unfolding rows_within_from keys_from
  fits_from ks [] l = l
  fits_from ks (r ∷ rows) l = by (leb (length (keyed r ks)) C) refl (fits_from (keyed r ks) rows)
    where
      by : (b : Bool) → leb (length (keyed r ks)) C ≡ b → (length (keyed r ks) ≤ C → length (keys_from (keyed r ks) (take (rows_within_from C (keyed r ks) rows) rows)) ≤ C)
          → length (keys_from ks (take (cond b (suc (rows_within_from C (keyed r ks) rows)) 0) (r ∷ rows))) ≤ C
      by true e h = h (leb-true _ _ e)
      by false e h = l

  pub within_fits : (rows : List Row) → length (keys (take (rows_within C rows) rows)) ≤ C
  unfolding rows_within keys
  within_fits rows = fits_from [] rows (omega arith)

  -- There is no entry left for the next row.
  over_from : (ks : List Key) (rows : List Row) → rows_within_from C ks rows < length rows → C < length (keys_from ks (take (suc (rows_within_from C ks rows)) rows))
  unfolding rows_within_from keys_from
  over_from ks [] l = absurd (omega arith)
  over_from ks (r ∷ rows) l = by (leb (length (keyed r ks)) C) refl l (over_from (keyed r ks) rows)
    where
      by : (b : Bool) → leb (length (keyed r ks)) C ≡ b → cond b (suc (rows_within_from C (keyed r ks) rows)) 0 < suc (length rows)
          → (rows_within_from C (keyed r ks) rows < length rows → C < length (keys_from (keyed r ks) (take (suc (rows_within_from C (keyed r ks) rows)) rows)))
          → C < length (keys_from ks (take (suc (cond b (suc (rows_within_from C (keyed r ks) rows)) 0)) (r ∷ rows)))
      by true e m h = h (omega arith)
      by false e m h = leb-false _ _ e

  pub within_over : (rows : List Row) → rows_within C rows < length rows → C < length (keys (take (suc (rows_within C rows)) rows))
  unfolding rows_within keys
  within_over rows l = over_from [] rows l

  -- No more rows are within than there are.
  le_from : (ks : List Key) (rows : List Row) → rows_within_from C ks rows ≤ length rows
  unfolding rows_within_from
  le_from ks [] = omega arith
  le_from ks (r ∷ rows) = by (leb (length (keyed r ks)) C) (le_from (keyed r ks) rows)
    where
      by : (b : Bool) → rows_within_from C (keyed r ks) rows ≤ length rows → cond b (suc (rows_within_from C (keyed r ks) rows)) 0 ≤ suc (length rows)
      by true h = omega arith
      by false h = omega arith

  pub within_le : (rows : List Row) → rows_within C rows ≤ length rows
  unfolding rows_within
  within_le rows = le_from [] rows

-- With a longer list and more rows, at least as many are within.
grow_from : (C C' : ℕ) → C ≤ C' → (ks : List Key) (a b : List Row) → rows_within_from C ks a ≤ rows_within_from C' ks (a ++ b)
unfolding rows_within_from
grow_from C C' l ks [] b = omega arith
grow_from C C' l ks (r ∷ a) b = by (leb (length (keyed r ks)) C) refl (leb (length (keyed r ks)) C') refl (grow_from C C' l (keyed r ks) a b)
  where
    no_less : C ≤ C' → length (keyed r ks) ≤ C → C' < length (keyed r ks) → ⊥
    no_less p q z = omega arith

    by : (x : Bool) → leb (length (keyed r ks)) C ≡ x → (y : Bool) → leb (length (keyed r ks)) C' ≡ y → rows_within_from C (keyed r ks) a ≤ rows_within_from C' (keyed r ks) (a ++ b)
        → cond x (suc (rows_within_from C (keyed r ks) a)) 0 ≤ cond y (suc (rows_within_from C' (keyed r ks) (a ++ b))) 0
    by true e true f h = omega arith
    by true e false f h = absurd (no_less l (leb-true _ _ e) (leb-false _ _ f))
    by false e y f h = omega arith

pub within_grow : (C C' : ℕ) → C ≤ C' → (a b : List Row) → rows_within C a ≤ rows_within C' (a ++ b)
unfolding rows_within
within_grow C C' l a b = grow_from C C' l [] a b

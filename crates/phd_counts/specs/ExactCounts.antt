-- The counts of good tables are exact: in each object array, references and nulls add up to the true length; over all rows, they
-- add up to the total; and every sum is far below what 64 bits hold. A reader must believe the record `ExactCounts`.
use Rattle.std.specs.Prelude.{◌≡◌, refl, ℕ, suc, ◌+◌, ◌*◌, ◌^◌, ◌≤◌, ◌<◌, true, cond, None}
use Rattle.std.proofs.Math.Nat.{zero-add}
use native.Mathlib.Omega.{arith}
use mathlib.Core.List.{List, [], ◌∷◌}
use Rattle.std.proofs.Math.ListN.{length}
use Rattle.std.proofs.Common.{eq-eqb, ne_eqb}
use Rattle.table.specs.Rows.{All, is_kind, without_place, rec_of}
use Rattle.table.specs.Sums.{sum}
use Rattle.table.specs.declared.Row.{Row}
use Rattle.phd.specs.declared.Header.{Header}
use Rattle.phd_check.specs.GoodRows.{good_row, first_bad_from, TablesGood}
use Rattle.phd_check.specs.WellFormed.{GoodKind, a_class, an_object, an_array, a_primitive, none_bad, spans_in_bounds, good_rec, each_row, row_count_bound, ref_count_bound}
use Rattle.phd_counts.specs.Counts.{row_ref_count, nulls_of, nulls}
use Rattle.phd_counts.specs.CountLoop.{CountBounds}

-- The references and nulls of a row together: an object array's true length; the reference count of any other row.
abbrev pub with_nulls : Row → ℕ
with_nulls r = cond (is_kind 3 r) r.len r.count

-- The counts of rows are exact, given the table of references.
pub record ExactCounts (refs : List ℕ) (rows : List Row) : Type 0 where
  -- The references and nulls of an object array add up to its true length.
  pub array : All (λ r. r.kind ≡ 3 → r.count + nulls_of r ≡ r.len) rows
  -- All references plus all nulls are the sum of `with_nulls` over the rows.
  pub total : sum row_ref_count rows + nulls rows ≡ sum with_nulls rows
  -- The table of references holds all of them.
  pub in_bounds : sum row_ref_count rows ≤ length refs
  -- There are at most 2^30 rows, 2^30 references and 2^61 nulls.
  pub few : CountBounds rows

-- ---- one good row

-- The references and nulls of a row add up to `with_nulls`, and it has fewer than 2^31 nulls.
record RefsAndNulls (r : Row) : Type 0 where
  whole : r.count + nulls_of r ≡ with_nulls r
  few : nulls_of r < 2 ^ 31

-- A row that is not an object array has no nulls.
other_refs_and_nulls : (r : Row) → (r.kind ≡ 3 → ⊥) → RefsAndNulls r
unfolding nulls_of
other_refs_and_nulls r k =
    let e = ne_eqb r.kind 3 k in
    record { whole = rw e (omega arith); few = rw e (omega arith) }

-- An object array with at most as many references as its true length.
array_refs_and_nulls : (r : Row) → r.kind ≡ 3 → r.len < 2 ^ 31 → r.count ≤ r.len → RefsAndNulls r
unfolding nulls_of
array_refs_and_nulls r k l m =
    let e = eq-eqb r.kind 3 k in
    record { whole = rw e (omega arith); few = rw e (omega arith) }

kind_refs_and_nulls : (r : Row) (name : List ℕ) → GoodKind (without_place r) name → RefsAndNulls r
unfolding without_place
kind_refs_and_nulls r name (a_class kind _ _ _ _ _ _ _) = other_refs_and_nulls r (λ e. omega arith)
kind_refs_and_nulls r name (an_object kind _ _ _ _) = other_refs_and_nulls r (λ e. omega arith)
kind_refs_and_nulls r name (an_array kind _ len most _ _) = array_refs_and_nulls r kind len most
kind_refs_and_nulls r name (a_primitive kind _ _ _ _ _ _) = other_refs_and_nulls r (λ e. omega arith)

-- ---- sums over good rows

total_of : (rows : List Row) → All RefsAndNulls rows → sum row_ref_count rows + sum nulls_of rows ≡ sum with_nulls rows
unfolding sum
total_of [] a = refl
total_of (r ∷ rows) a =
    let w = a.0.whole in
    let t = total_of rows a.1 in
    omega arith

nulls_le : (rows : List Row) → All RefsAndNulls rows → sum nulls_of rows ≤ length rows * 2 ^ 31
unfolding sum
nulls_le [] a = omega arith
nulls_le (r ∷ rows) a =
    let w = a.0.few in
    let t = nulls_le rows a.1 in
    omega arith

-- In each object array, references and nulls add up to the true length.
arrays_exact : (rows : List Row) → All RefsAndNulls rows → All (λ r. r.kind ≡ 3 → r.count + nulls_of r ≡ r.len) rows
arrays_exact [] a = tt
arrays_exact (r ∷ rows) a = (λ e. rw (eq-eqb r.kind 3 e) at a.0.whole, arrays_exact rows a.1)

module _ (h : Header) (names refs : List ℕ) where
  -- The references of good rows, from an index on, lie within the table.
  refs_in_bounds_from : (rows : List Row) (i index : ℕ) → first_bad_from h names refs i index rows ≡ None → index ≤ length refs → index + sum row_ref_count rows ≤ length refs
  unfolding sum rec_of without_place
  refs_in_bounds_from [] i index e l = omega arith
  refs_in_bounds_from (r ∷ rows) i index e l =
      let g = none_bad h names refs i index r rows e in
      let s : r.first + r.count ≤ length refs = (spans_in_bounds h names refs index r g.0).span in
      let f : r.first ≡ index = (good_rec h names refs index r g.0).first in
      let t = refs_in_bounds_from rows (suc i) (index + r.count) g.1 (omega arith) in
      omega arith

  good_refs_and_nulls : (index : ℕ) (r : Row) → good_row h names refs index r ≡ true → RefsAndNulls r
  unfolding rec_of
  good_refs_and_nulls index r g = kind_refs_and_nulls r _ (good_rec h names refs index r g).kind_good

  -- If the header is good and no row is bad, the counts are exact.
  pub exact_counts : (rows : List Row) → TablesGood h names refs rows → ExactCounts refs rows
  unfolding nulls
  exact_counts rows a =
      let w : All RefsAndNulls rows = each_row h names refs RefsAndNulls good_refs_and_nulls rows a.1 in
      let l : sum row_ref_count rows ≤ length refs = rw zero-add at (refs_in_bounds_from rows 0 0 a.1 (omega arith)) in
      let m = ref_count_bound h names rows refs a.0 in
      let k = row_count_bound h names rows refs a.0 in
      let f = nulls_le rows w in
      record {
        array = arrays_exact rows w;
        total = total_of rows w;
        in_bounds = l;
        few = record { rows_bound = k; refs_bound = omega arith; nulls_bound = omega arith };
      }

-- How large the numbers of entries get: with at most 2^30 rows that are counted, of sizes and reference counts below 2^32, all of them have
-- less than 64 bits.
-- Assumes nothing.
use Rattle.std.specs.Prelude.{◌≡◌, Bool, get_or, take}
use Rattle.std.proofs.Common.{◌∙◌}
use Prim.Native.Nat.{ℕ, suc, ◌+◌, ◌*◌, ◌-◌, ◌^◌, ◌≤◌, ◌<◌}
use native.Mathlib.Omega.{arith}
use Rattle.std.proofs.Math.Bool.{true, false, cond}
use mathlib.Core.List.{List, [], ◌∷◌, ◌++◌}
use Rattle.std.proofs.Math.ListN.{length}
use Rattle.table.specs.Rows.{is_kind, All}
use Rattle.table.specs.RowBytes.{is_class_at, bytes_of}
use Rattle.table.specs.declared.Row.{Row}
use Rattle.summaries.specs.Summaries.{waits, Key, has, total, share, over, entry, summaries, its_key}
use Rattle.summaries.specs.ClassSizes.{known, size_at, bytes_are, waits_are}
use Rattle.summaries.specs.SummaryTotals.{entry_at}
use Rattle.summaries.specs.ClassRowsLast.{class_rows, others, size_others, size_class_rows, over_others, over_class_rows, total_append, entries_after}
use Rattle.summaries.specs.declared.Summary.{Summary}

-- The numbers of a row are below 2^32.
pub record SmallRow (r : Row) : Type 0 where
  pub size : r.size < 2 ^ 32
  pub count : r.count < 2 ^ 32

-- The numbers of an entry have less than 64 bits, and the number of objects that wait less than 32.
pub record SmallEntry (s : Summary) : Type 0 where
  pub instances : s.instances < 2 ^ 64
  pub bytes : s.bytes < 2 ^ 64
  pub refs : s.refs < 2 ^ 64
  pub waiting : s.waiting < 2 ^ 32

size_below : (a : ℕ) (rows : List Row) → All SmallRow rows → size_at rows a < 2 ^ 32
unfolding size_at
size_below a [] s = omega arith
size_below a (r ∷ rows) s = go (is_class_at a r) (size_below a rows s.1)
  where
    go : (b : Bool) → size_at rows a < 2 ^ 32 → cond b r.size (size_at rows a) < 2 ^ 32
    go true h = s.0.size
    go false h = h

module _ (k : Key) (f : Row → ℕ) (m : ℕ) where
  -- A sum over rows each of which adds at most m.
  over_at_most : (rows : List Row) → All (λ r. f r ≤ m) rows → over k f rows ≤ length rows * m
  unfolding total share
  over_at_most [] a = omega arith
  over_at_most (r ∷ rows) a = go (has k r) (over_at_most rows a.1)
    where
      go : (b : Bool) → over k f rows ≤ length rows * m → cond b (f r) 0 + over k f rows ≤ suc (length rows) * m
      go true h = omega (arith, a.0)
      go false h = omega arith

all_map : {P Q : Row → Type 0} → ((r : Row) → P r → Q r) → (rows : List Row) → All P rows → All Q rows
all_map f [] a = tt
all_map f (r ∷ rows) a = (f r a.0, all_map f rows a.1)

-- The rows counted, a, and those gone over for class rows, b.
module _ (a b : List Row) (few : length a ≤ 2 ^ 30) (small_a : All SmallRow a) (small_b : All SmallRow b) (k : Key) where
  abbrev both_rows : List Row
  both_rows = others a ++ class_rows b

  over_both : (f : Row → ℕ) → over k f both_rows ≡ over k f a
  over_both f = total_append (share k f) (others a) (class_rows b) ∙ omega (arith, over_others k f a, over_class_rows k f b)

  at_most : (f : Row → ℕ) (m : ℕ) → ((r : Row) → SmallRow r → f r ≤ m) → over k f both_rows ≤ length a * m
  at_most f m e = rw (over_both f) (over_at_most k f m a (all_map e a small_a))

  bytes_row : (r : Row) → SmallRow r → bytes_of both_rows r ≤ 2 ^ 34 - 4
  bytes_row r s =
      let z : size_at both_rows r.class < 2 ^ 32 = rw (size_others r.class a (class_rows b), size_class_rows r.class b) (size_below r.class b small_b) in
      rw (bytes_are both_rows r) (go (is_kind 1 r) (is_kind 2 r) z s.size)
    where
      go : (x y : Bool) → size_at both_rows r.class < 2 ^ 32 → r.size < 2 ^ 32 → cond x 0 (cond y (size_at both_rows r.class) (4 * r.size)) ≤ 2 ^ 34 - 4
      go true y z s = omega arith
      go false true z s = omega arith
      go false false z s = omega arith

  waits_row : (r : Row) → SmallRow r → waits both_rows r ≤ 1
  waits_row r s = rw (waits_are both_rows r) (go (is_kind 2 r) (known both_rows r.class))
    where
      go : (x y : Bool) → cond x (cond y 0 1) 0 ≤ 1
      go true true = omega arith
      go true false = omega arith
      go false y = omega arith

  entry_small : SmallEntry (entry both_rows k)
  unfolding entry
  entry_small = record {
    instances = let m = at_most (λ r. 1) 1 (λ r s. omega arith) in omega arith;
    bytes = let m = at_most (bytes_of both_rows) (2 ^ 34 - 4) bytes_row in omega arith;
    refs = let m = at_most (λ r. r.count) (2 ^ 32 - 1) (λ r s. let c = s.count in omega arith) in omega arith;
    waiting = let m = at_most (waits both_rows) 1 waits_row in omega arith;
  }

-- Every entry of a pass is small.
pub entries_small : (rows : List Row) (c z : ℕ) → length (take c rows) ≤ 2 ^ 30 → All SmallRow (take c rows) → All SmallRow (take z rows)
    → (d : Summary) (i : ℕ) → i < length (entries_after rows c z) → SmallEntry (get_or (entries_after rows c z) i d)
unfolding entries_after
entries_small rows c z few p q d i l =
    rw (entry_at (others (take c rows) ++ class_rows (take z rows)) d i l)
    (entry_small (take c rows) (take z rows) few p q (its_key (get_or (summaries (others (take c rows) ++ class_rows (take z rows))) i d)))

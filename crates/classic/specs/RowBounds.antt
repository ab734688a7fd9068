-- Bounds on good rows, for the proofs about the text: names and references are in bounds, numbers are small, kinds are 1 to 4.
-- Assumes nothing.
use Rattle.std.specs.Prelude.{◌≡◌, ℕ, ◌+◌, ◌^◌, ◌≤◌, ◌<◌, true, List, [], ◌∷◌, length}
use Rattle.std.proofs.Common.{arith}
use Rattle.std.proofs.Props.{props}
use Rattle.std.specs.Coded.{×_prop, Unit-prop}
use Rattle.phd.specs.declared.Header.{Header}
use Rattle.table.specs.Rows.{All, without_place, rec_of}
use Rattle.phd_check.specs.GoodRows.{good_row, TablesGood}
use Rattle.phd_check.specs.WellFormed.{GoodKind, a_class, an_object, an_array, a_primitive, spans_in_bounds, good_rec, each_row}
use Rattle.table.specs.Sums.{sum}
use Rattle.table.specs.declared.Row.{Row}
use Rattle.phd_counts.specs.Counts.{row_ref_count}
use Rattle.phd_counts.specs.ExactCounts.{exact_counts}

-- A row's name lies in the name bytes, and its numbers are small.
pub record RowNumbersInBounds (names : List ℕ) (r : Row) : Type 0 where
  pub name_in_bounds : r.place + r.namelen ≤ length names
  pub short : r.namelen < 65536
  pub size : r.size < 2 ^ 32
  pub few : r.count < 2 ^ 31
  pub prim_lt : r.prim < 8

-- A row's kind is 1 to 4 (docs/FORMAT.md 4.1).
pub record KnownKind (r : Row) : Type 0 where
  pub least : 1 ≤ r.kind
  pub most : r.kind ≤ 4

-- The numbers of all rows are in bounds, and their kinds are known.
pub record AllNumbersInBounds (names : List ℕ) (rows : List Row) : Type 0 where
  pub row : All (RowNumbersInBounds names) rows
  pub kind : All KnownKind rows

-- There is at most one proof of it.
all_prop : {P : Row → Type 0} → ((r : Row) → IsProp (P r)) → (rows : List Row) → IsProp (All P rows)
all_prop p [] = Unit-prop
all_prop p (r ∷ rows) = ×_prop (p r) (all_prop p rows)

pub all_numbers_prop : (names : List ℕ) (rows : List Row) → IsProp (AllNumbersInBounds names rows)
all_numbers_prop names rows a b = λ i. record {
  row = all_prop (λ r. Prim.hlevel props) rows a.row b.row i;
  kind = all_prop (λ r. Prim.hlevel props) rows a.kind b.kind i;
}

-- A row's references lie in the table of references.
abbrev pub RefsInBounds : List ℕ → Row → Type 0
RefsInBounds refs r = r.first + r.count ≤ length refs

-- The references of all rows lie in the table of references, and together they are at most as many as it has.
pub record AllRefsInBounds (refs : List ℕ) (rows : List Row) : Type 0 where
  pub span : All (RefsInBounds refs) rows
  pub all : sum row_ref_count rows ≤ length refs

-- ---- bounds of good rows

-- A good row's kind is one of the four, and bounds the row's size and type.
kind_bounds : (r : Row) (name : List ℕ) → GoodKind (without_place r) name → (r.size < 2 ^ 32) × (r.prim < 8) × KnownKind r
unfolding without_place
kind_bounds r name (a_class kind _ size _ prim _ _ _) = (omega arith, omega arith, record { least = omega arith; most = omega arith })
kind_bounds r name (an_object kind size _ prim _) = (omega arith, omega arith, record { least = omega arith; most = omega arith })
kind_bounds r name (an_array kind size _ _ prim _) = (omega arith, omega arith, record { least = omega arith; most = omega arith })
kind_bounds r name (a_primitive kind _ _ size _ prim _) = (omega arith, omega arith, record { least = omega arith; most = omega arith })

module _ (h : Header) (names refs : List ℕ) where
  row_in_bounds_of : (index : ℕ) (r : Row) → good_row h names refs index r ≡ true → RowNumbersInBounds names r
  unfolding rec_of
  row_in_bounds_of index r g =
      let l = spans_in_bounds h names refs index r g in
      let s = kind_bounds r _ (good_rec h names refs index r g).kind_good in
      record { name_in_bounds = l.name_in_bounds; short = l.short; size = s.0; few = l.few; prim_lt = s.1 }

  known_kind_of : (index : ℕ) (r : Row) → good_row h names refs index r ≡ true → KnownKind r
  unfolding rec_of
  known_kind_of index r g = (kind_bounds r _ (good_rec h names refs index r g).kind_good).2

  -- The numbers of all rows of good tables are in bounds, and their kinds are known.
  pub all_in_bounds : (rows : List Row) → TablesGood h names refs rows → AllNumbersInBounds names rows
  all_in_bounds rows a = record {
    row = each_row h names refs (RowNumbersInBounds names) row_in_bounds_of rows a.1;
    kind = each_row h names refs KnownKind known_kind_of rows a.1;
  }

  -- The references of all rows of good tables are in bounds.
  pub all_refs_in_bounds : (rows : List Row) → TablesGood h names refs rows → AllRefsInBounds refs rows
  all_refs_in_bounds rows a = record {
    span = each_row h names refs (RefsInBounds refs) (λ index r g. (spans_in_bounds h names refs index r g).span) rows a.1;
    all = (exact_counts h names refs rows a).in_bounds;
  }

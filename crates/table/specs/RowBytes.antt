-- Class rows by address, and the bytes of a row, which depend on the class row of an object (docs/FORMAT.md 7.2 and 7.3). The text and
-- the class summaries use these definitions.
-- A reader must believe them and the record `ClassRow`.
use Rattle.std.specs.Prelude.{◌≡◌, ◌↔◌, ℕ, ◌*◌, Bool, true, false, cond, ◌&&◌, List, eqb, Option, Some, None}
use Rattle.std.proofs.Common.{eqb-true, eq-eqb}
use Rattle.decode.specs.Values.{and_left, and_right}
use Rattle.table.specs.Rows.{zero_row, is_kind}
use Rattle.table.specs.Search.{first_row, found_row}
use Rattle.table.specs.declared.Row.{Row}

-- Whether a row is a class row with the address a.
unfoldable pub is_class_at : ℕ → Row → Bool
is_class_at a r = is_kind 1 r && eqb r.address a

-- A class row with the address a.
pub record ClassRow (a : ℕ) (r : Row) : Type 0 where
  pub kind : r.kind ≡ 1
  pub address : r.address ≡ a

-- `is_class_at` tests exactly for a class row with the address a.
pub is_class_at_iff : (a : ℕ) (r : Row) → (is_class_at a r ≡ true) ↔ ClassRow a r
unfolding is_class_at
is_class_at_iff a r = (
  λ e. record { kind = eqb-true _ _ (and_left (is_kind 1 r) (eqb r.address a) e); address = eqb-true _ _ (and_right (is_kind 1 r) (eqb r.address a) e) },
  λ c. rw (eq-eqb _ _ c.kind, eq-eqb _ _ c.address),
)

-- The first class row with the address a.
abbrev pub class_at : List Row → ℕ → Option ℕ
class_at rows a = first_row (is_class_at a) rows

-- Whether a search found no row.
abbrev pub is_not_found : Option ℕ → Bool
is_not_found (Some i) = false
is_not_found None = true

-- The class row whose name is part of a row's type: of a class, the row itself; of an object or object array, its class. A row of
-- zeros if there is none, as for a primitive array.
unfoldable pub naming_class : List Row → Row → Row
naming_class rows r = cond (is_kind 1 r) r (cond (is_kind 4 r) zero_row (found_row rows (class_at rows r.class)))

-- The bytes of a row: 0 for a class, the instance size of its class for an object, 4 × size for an array. An object whose class row is
-- not among the rows has 0.
unfoldable pub bytes_of : List Row → Row → ℕ
bytes_of rows r = cond (is_kind 1 r) 0 (cond (is_kind 2 r) (naming_class rows r).size (4 * r.size))

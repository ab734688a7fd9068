-- Class rows by name, and rows whose class row is missing, as properties of rows. The tests of ClassicText decide them.
-- A reader must believe the records `ClassNamed` and `ClassMissing`.
use Rattle.std.specs.Prelude.{◌≡◌, refl, ◌↔◌, ◌⊎◌, ℕ, Bool, true, false, ◌||◌, List, Option, Some, None}
use Rattle.std.proofs.Common.{inl, inr, arith, eqb-true, eq-eqb}
use Rattle.decode.specs.Values.{and_left, and_right}
use Rattle.phd.specs.Phd.{bytes_equal}
use Rattle.phd.specs.ByteTests.{bytes_equal_iff}
use Rattle.table.specs.Rows.{is_kind, name_of}
use Rattle.table.specs.Search.{NoneSatisfies}
use Rattle.table.proofs.SearchLaws.{first_row_none}
use Rattle.table.specs.declared.Row.{Row}
use Rattle.classic.specs.ClassicText.{is_class_named, class_missing}
use Rattle.table.specs.RowBytes.{is_class_at, class_at, is_not_found, ClassRow, is_class_at_iff}

-- A class row with this name.
pub record ClassNamed (names name : List ℕ) (r : Row) : Type 0 where
  pub kind : r.kind ≡ 1
  pub same_name : name_of names r ≡ name

-- An object or object array for whose class word `rows` has no class row.
pub record ClassMissing (rows : List Row) (r : Row) : Type 0 where
  pub kind : (r.kind ≡ 2) ⊎ (r.kind ≡ 3)
  pub none : NoneSatisfies (ClassRow r.class) rows

-- `is_class_named` tests exactly for a class row with this name.
pub is_class_named_iff : (names name : List ℕ) (r : Row) → (is_class_named names name r ≡ true) ↔ ClassNamed names name r
unfolding is_class_named
is_class_named_iff names name r =
    let same : Bool = bytes_equal (name_of names r) name in (
      λ e. record { kind = eqb-true _ _ (and_left (is_kind 1 r) same e); same_name = (bytes_equal_iff _ _).0 (and_right (is_kind 1 r) same e) },
      λ c. rw (eq-eqb _ _ c.kind, (bytes_equal_iff _ _).1 c.same_name),
    )

or_cases : (a b : Bool) → a || b ≡ true → (a ≡ true) ⊎ (b ≡ true)
or_cases true b e = inl refl
or_cases false b e = inr e

or_of : (a b : Bool) → (a ≡ true) ⊎ (b ≡ true) → a || b ≡ true
or_of a b (inl e) = rw e
or_of true b (inr e) = refl
or_of false b (inr e) = e

is_not_found_eq : (f : Option ℕ) → is_not_found f ≡ true → f ≡ None
is_not_found_eq (Some i) e = let z : ◌≡◌ {A = ℕ} 0 1 = cc in absurd (omega arith)
is_not_found_eq None e = refl

-- `class_missing` tests exactly for a row whose class row is missing.
pub class_missing_iff : (rows : List Row) (r : Row) → (class_missing rows r ≡ true) ↔ ClassMissing rows r
unfolding class_missing
class_missing_iff rows r = (
  λ e. record { kind = kinds (or_cases _ _ (and_left kind (is_not_found class) e)); none = found.0 (is_not_found_eq class (and_right kind (is_not_found class) e)) },
  λ c. rw (or_of (is_kind 2 r) (is_kind 3 r) (tests c.kind), found.1 c.none),
)
  where
    kind : Bool
    kind = is_kind 2 r || is_kind 3 r

    class : Option ℕ
    class = class_at rows r.class

    found : (class_at rows r.class ≡ None) ↔ NoneSatisfies (ClassRow r.class) rows
    found = first_row_none (ClassRow r.class) (is_class_at r.class) (is_class_at_iff r.class) rows

    kinds : (is_kind 2 r ≡ true) ⊎ (is_kind 3 r ≡ true) → (r.kind ≡ 2) ⊎ (r.kind ≡ 3)
    kinds (inl e) = inl (eqb-true _ _ e)
    kinds (inr e) = inr (eqb-true _ _ e)

    tests : (r.kind ≡ 2) ⊎ (r.kind ≡ 3) → (is_kind 2 r ≡ true) ⊎ (is_kind 3 r ≡ true)
    tests (inl e) = inl (eq-eqb _ _ e)
    tests (inr e) = inr (eq-eqb _ _ e)

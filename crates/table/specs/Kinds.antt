-- The kinds of records, by the numbers of rows (docs/FORMAT.md 4.1).
-- A reader must believe `IsKind`.
use Rattle.std.specs.Prelude.{◌≡◌, ◌≢◌, ℕ, Option, Some, None}
use Rattle.table.specs.declared.Kind.{Kind}
use Rattle.table.specs.declared.Kind.TheVariants.{Class, Object, ObjectArray, PrimitiveArray}

-- The kind that a number names: 1 class, 2 object, 3 object array, 4 primitive array; any other number names none.
abbrev pub IsKind : Option Kind → ℕ → Type 0
IsKind (Some Class) n = n ≡ 1
IsKind (Some Object) n = n ≡ 2
IsKind (Some ObjectArray) n = n ≡ 3
IsKind (Some PrimitiveArray) n = n ≡ 4
IsKind None n = (n ≢ 1) × (n ≢ 2) × (n ≢ 3) × (n ≢ 4)

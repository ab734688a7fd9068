-- Types and first lines, in the parts in which they are encoded.
-- Assumes nothing.
use Rattle.std.specs.Prelude.{◌≡◌, refl, ℕ, true, false, List, ◌∷◌, [], ◌++◌, eqb, get_or}
use Rattle.std.proofs.Common.{length-append, append-nil}
use Rattle.encode.specs.SetsLaws.{sets_append}
use Rattle.table.specs.declared.Row.{Row}
use Rattle.digits.specs.Digits.{decimal}
use Rattle.classic.specs.ClassicText.{address, letters, primitive_array_type, object_array_type}
use Rattle.classic_row.specs.RowText.{kind_mark, label_line}

-- The type of an array of arrays, and of another array of objects.
pub array_of_arrays : (name : List ℕ) → eqb (get_or name 0 0) 0x5B ≡ true → object_array_type name ≡ (0x5B ∷ []) ++ name
unfolding object_array_type
array_of_arrays name e = rw e

pub array_of_objects : (name : List ℕ) → eqb (get_or name 0 0) 0x5B ≡ false → object_array_type name ≡ (0x5B ∷ 0x4C ∷ []) ++ (name ++ (0x3B ∷ []))
unfolding object_array_type
array_of_objects name e = rw e

pub primitive_array : (prim : ℕ) → primitive_array_type prim ≡ (0x5B ∷ []) ++ (get_or letters prim 0 ∷ [])
unfolding primitive_array_type
primitive_array prim = refl

pub ruleset type_steps = (array_of_arrays, array_of_objects, primitive_array, sets_append, length-append)

-- The first line of a row: the address, the bytes, the mark of the kind and the type.
pub line_split : (bits : ℕ) (r : Row) (bytes : ℕ) (type : List ℕ) → label_line bits r bytes type ≡ address bits r.address ++ (((0x20 ∷ 0x5B ∷ []) ++ decimal bytes) ++ (kind_mark r.kind ++ type))
unfolding label_line
line_split bits r bytes type = rw append-nil

pub ruleset line_steps = (line_split, sets_append, length-append)

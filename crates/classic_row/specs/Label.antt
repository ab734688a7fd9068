-- The label of a row: the bytes and the type that its first line shows, which are those of the definition of the text.
-- Assumes nothing.
use Rattle.std.specs.Prelude.{◌≡◌, refl, ℕ, ◌*◌, ◌<◌, ◌||◌, Bool, true, false, List, eqb, Option, Some, None}
use Rattle.std.proofs.Common.{◌∙◌, arith, eq-eqb}
use Rattle.std.proofs.lemmas.Bool.{eqb-false}
use Rattle.table.specs.Rows.{name_of, nth}
use Rattle.table.specs.Search.{found_row}
use Rattle.table.specs.declared.Row.{Row}
use Rattle.table.specs.RowBytes.{class_at, naming_class, bytes_of}
use Rattle.classic.specs.ClassicText.{needs_class, class_missing, primitive_array_type, object_array_type, type_of}
use Rattle.classic.specs.RowBounds.{KnownKind}
use Rattle.classic_row.specs.declared.label.TypeName.{TypeName}
use Rattle.classic_row.specs.declared.label.TypeName.TheVariants.{Name, ArrayOf, PrimitiveArray}
use Rattle.classic_row.specs.declared.label.Label.{Label}

-- A type as bytes.
abbrev pub type_text : TypeName → List ℕ
type_text (Name name) = name.now
type_text (ArrayOf name) = object_array_type name.now
type_text (PrimitiveArray prim) = primitive_array_type prim

-- The number of a primitive array's type is one of the eight.
abbrev pub HasLetter : TypeName → Type 0
HasLetter (PrimitiveArray prim) = prim < 8
HasLetter (Name name) = Unit {0}
HasLetter (ArrayOf name) = Unit {0}

-- The label of a row has the bytes and the type of the row.
pub record IsLabel (names : List ℕ) (rows : List Row) (r : Row) (label : Label) : Type 0 where
  pub bytes : label.bytes ≡ bytes_of rows r
  pub type_is : type_text label.type_name ≡ type_of names rows r
  pub letter : HasLetter label.type_name

-- The label of a row, or none for an object or object array whose class row is missing.
abbrev pub FoundLabel : List ℕ → List Row → Row → Option Label → Type 0
FoundLabel names rows r (Some label) = (class_missing rows r ≡ false) × IsLabel names rows r label
FoundLabel names rows r None = class_missing rows r ≡ true

module _ (names : List ℕ) (rows : List Row) (r : Row) where
  module _ (label : Label) (letter : HasLetter label.type_name) where
    -- The label of a class row.
    pub class_label : r.kind ≡ 1 → label.bytes ≡ 0 → type_text label.type_name ≡ name_of names r → FoundLabel names rows r (Some label)
    unfolding class_missing bytes_of type_of naming_class name_of
    class_label k b n = (rw k, record { bytes = b ∙ rw k; type_is = n ∙ rw k; letter = letter })

    -- The label of a primitive array.
    pub primitive_label : r.kind ≡ 4 → label.bytes ≡ 4 * r.size → type_text label.type_name ≡ primitive_array_type r.prim → FoundLabel names rows r (Some label)
    unfolding class_missing bytes_of type_of naming_class
    primitive_label k b n = (rw k, record { bytes = b ∙ rw k; type_is = n ∙ rw k; letter = letter })

  module _ (k : KnownKind r) (not_class : r.kind ≡ 1 → ⊥) (not_primitive : r.kind ≡ 4 → ⊥) where
    -- Such a row needs a class row.
    pub needs_class_row : needs_class r ≡ true
    needs_class_row = by (eqb r.kind 2) refl
      where
        by : (b : Bool) → eqb r.kind 2 ≡ b → b || eqb r.kind 3 ≡ true
        by true e = refl
        by false e = eq-eqb r.kind 3 (let n = eqb-false r.kind 2 e in let a = k.least in let b = k.most in omega arith)

    -- An object or object array whose class row is missing has none.
    pub no_label : class_at rows r.class ≡ None → FoundLabel names rows r None
    unfolding class_missing
    no_label f = rw (needs_class_row, f)

    module _ (label : Label) (letter : HasLetter label.type_name) (i : ℕ) (f : class_at rows r.class ≡ Some i) where
      -- The label of an object, from its class row.
      pub object_label : r.kind ≡ 2 → label.bytes ≡ (nth rows i).size → type_text label.type_name ≡ name_of names (nth rows i) → FoundLabel names rows r (Some label)
      unfolding class_missing bytes_of type_of naming_class found_row
      object_label o b n = (rw (needs_class_row, f), record { bytes = rw (b, o, f); type_is = rw (n, o, f); letter = letter })

      -- The label of an object array.
      pub array_label : (r.kind ≡ 2 → ⊥) → label.bytes ≡ 4 * r.size → type_text label.type_name ≡ object_array_type (name_of names (nth rows i)) → FoundLabel names rows r (Some label)
      unfolding class_missing bytes_of type_of naming_class found_row
      array_label o b n =
          let t : r.kind ≡ 3 = let a = k.least in let b = k.most in omega arith in
          (rw (needs_class_row, f), record { bytes = b ∙ rw t; type_is = rw (n, t, f); letter = letter })

-- The label that was found is the row's.
pub label_found : {names : List ℕ} {rows : List Row} {r : Row} {found : Option Label} {label : Label} → found ≡ Some label → FoundLabel names rows r found → IsLabel names rows r label
label_found e f = (rw e at f).1

-- The class words of primitive arrays, by type, as one pass from the last row to the first finds them.
-- Assumes nothing; no definition of the text uses it.
use Rattle.std.specs.Prelude.{◌≡◌, refl, ℕ, ◌+◌, ◌-◌, ◌≤◌, ◌<◌, Bool, true, false, cond, List, [], ◌∷◌, eqb, length, get_or, replicate, Option, Some, None}
use Rattle.std.proofs.Common.{ap, ◌∙◌, arith}
use Rattle.std.proofs.lemmas.List.{length-replicate, get_or-replicate}
use Rattle.table.specs.Table.{row_count}
use Rattle.table.specs.Rows.{row_at, is_kind, rows_of, rows_left, rows_left_next, rows_left_none}
use Rattle.table.specs.declared.Row.{Row}
use Rattle.table.specs.Search.{first_from, found_row}
use Rattle.table.proofs.SearchLaws.{found_row_cons}
use Rattle.phd.specs.Phd.{bytes_equal}
use Rattle.classic.specs.ClassicText.{primitive_array_type, is_class_named, primitive_class, class_of}

-- The class word of a type among a row and the rows after it, if among the rows after it it is `class`.
abbrev pub entered_class : (names : List ℕ) → Row → ℕ → ℕ → ℕ
entered_class names r type class = cond (is_class_named names (primitive_array_type type) r) r.address class

-- Class words by type, `before` and `after` a row is entered.
pub record Entered (names : List ℕ) (r : Row) (before after : List ℕ) : Type 0 where
  pub eight : length after ≡ 8
  pub each : (type : ℕ) → type < 8 → get_or after type 0 ≡ entered_class names r type (get_or before type 0)

-- The class word of each of the eight types.
pub record PrimitiveClasses (names : List ℕ) (rows : List Row) (classes : List ℕ) : Type 0 where
  pub eight : length classes ≡ 8
  pub each : (type : ℕ) → type < 8 → get_or classes type 0 ≡ primitive_class names rows type

-- ---- the type with a name

-- Whether a search found the type.
abbrev pub is_type : ℕ → Option ℕ → Bool
is_type type (Some found) = eqb found type
is_type type None = false

-- The type of the primitive arrays whose type has this name, if one has.
pub record NamesPrim (name : List ℕ) (found : Option ℕ) : Type 0 where
  pub bound : (type : ℕ) → found ≡ Some type → type < 8
  pub each : (type : ℕ) → type < 8 → bytes_equal name (primitive_array_type type) ≡ is_type type found

-- ---- the pass over the rows

-- Without rows, all class words are 0.
no_classes : (names : List ℕ) → PrimitiveClasses names [] (replicate 8 0)
unfolding primitive_class found_row first_from
no_classes names = record { eight = length-replicate {A = ℕ} 8 0; each = λ type l. get_or-replicate {A = ℕ} 8 type 0 0 l }

-- A row before others decides, if it is a class row with the name of the type.
primitive_class_cons : (names : List ℕ) (r : Row) (rows : List Row) (type : ℕ) → primitive_class names (r ∷ rows) type ≡ entered_class names r type (primitive_class names rows type)
unfolding primitive_class
primitive_class_cons names r rows type =
    ap (λ (found : Row). found.address) (found_row_cons (is_class_named names (primitive_array_type type)) r rows) ∙ by (is_class_named names (primitive_array_type type) r) _
  where
    by : (b : Bool) (other : Row) → (cond b r other).address ≡ cond b r.address other.address
    by true other = refl
    by false other = refl

-- With a row entered, the class words are those of all rows.
entered_classes : (names : List ℕ) (r : Row) (rows : List Row) (before after : List ℕ) → PrimitiveClasses names rows before → Entered names r before after → PrimitiveClasses names (r ∷ rows) after
entered_classes names r rows before after p e = record { eight = e.eight; each = λ type l. rw (primitive_class_cons, ← p.each type l) (e.each type l) }

-- The loop invariant: the class words are those of the rows from index i on.
pub record ClassesFrom (names table : List ℕ) (i : ℕ) (classes : List ℕ) : Type 0 where
  pub most : i ≤ row_count table
  pub right : PrimitiveClasses names (rows_left table i) classes

module _ (names table : List ℕ) where
  -- It holds at the end of the table, for class words that are all 0.
  pub classes_start : (i : ℕ) → i ≡ row_count table → ClassesFrom names table i (replicate 8 0)
  classes_start i e = record { most = omega arith; right = rw (rows_left_none table i (omega arith)) (no_classes names) }

  -- With row i - 1 entered, it holds for i - 1.
  pub classes_step : (i : ℕ) (r : Row) (before after : List ℕ) → ClassesFrom names table i before → 0 < i → r ≡ row_at table (i - 1) → Entered names r before after → ClassesFrom names table (i - 1) after
  classes_step i r before after c l e entered =
      let m = c.most in
      let n : i - 1 < row_count table = omega arith in
      let q : i - 1 + 1 ≡ i = omega arith in
      record { most = omega arith; right = rw (rows_left_next table (i - 1) n, q, ← e) (entered_classes names r (rows_left table i) before after c.right entered) }

  -- At the start of the table, the class words are those of all rows.
  pub classes_end : (i : ℕ) (classes : List ℕ) → ClassesFrom names table i classes → i ≡ 0 → PrimitiveClasses names (rows_of table) classes
  classes_end i classes c e = rw e at c.right

-- ---- use

-- The class word that a row's second line shows, from class words by type.
abbrev pub class_from : List ℕ → Row → ℕ
class_from classes r = cond (is_kind 4 r) (get_or classes r.prim 0) r.class

-- It is that of the definition of the text.
pub class_from_is : (names : List ℕ) (rows : List Row) (classes : List ℕ) (r : Row) → PrimitiveClasses names rows classes → r.prim < 8 → class_from classes r ≡ class_of names rows r
unfolding class_of
class_from_is names rows classes r p l = rw (p.each r.prim l)

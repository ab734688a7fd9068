-- A row's two lines as the functions write them: from a label, which holds what the definition of the text (ClassicText) looks up
-- among the class rows. They are proved equal to the lines of the definition.
use Rattle.std.specs.Prelude.{◌≡◌, refl, ℕ, ◌+◌, ◌*◌, ◌/◌, ◌^◌, ◌≤◌, ◌<◌, Bool, true, false, cond, List, [], ◌∷◌, ◌++◌, length, get_or, eqb, Option, Some, None}
use Rattle.std.proofs.Common.{⊎_elim, arith, length-append}
use Rattle.decode.specs.Values.{by_cases}
use Rattle.encode.specs.Encode.{join}
use Rattle.phd.specs.Shapes.{ValidBits}
use Rattle.table.specs.Rows.{is_kind, refs_of, name_of, zero_row, all_nth}
use Rattle.phd_check.specs.WellFormed.{length_refs_of, length_name_of}
use Rattle.table.specs.Search.{found_row}
use Rattle.table.proofs.SearchLaws.{found_in_bounds}
use Rattle.table.specs.declared.Row.{Row}
use Rattle.digits.specs.Digits.{ascii, digit_count, text_decimal}
use Rattle.classic.specs.ClassicText.{address, refs_text, class_of, class_missing, primitive_array_type, object_array_type, type_of, first_line, second_line, unlines}
use Rattle.table.specs.RowBytes.{class_at, naming_class, bytes_of}
use Rattle.classic.specs.RowBounds.{RowNumbersInBounds, AllNumbersInBounds}
use Rattle.classic_fields.specs.FieldLengths.{length_address, length_refs_text}
use Rattle.classic_row.specs.declared.label.Label.{Label}
use Rattle.classic_row.specs.Label.{type_text, IsLabel}
use Rattle.digits.specs.DigitLengths.{length_decimal, digit_count_le_20}

-- `CLS` or `OBJ`, with the bracket after the bytes and the spaces: 6 bytes.
unfoldable pub kind_mark : ℕ → List ℕ
kind_mark kind = cond (eqb kind 1) (ascii "] CLS ") (ascii "] OBJ ")

-- The first line of a row, from its bytes and its type.
unfoldable pub label_line : ℕ → Row → (bytes : ℕ) → (type : List ℕ) → List ℕ
label_line bits r bytes type = join (address bits r.address ∷ text_decimal " [" bytes ∷ kind_mark r.kind ∷ type ∷ [])

-- A row's two lines as bytes.
unfoldable pub row_text : ℕ → (names refs : List ℕ) → List Row → Row → List ℕ
row_text bits names refs rows r = unlines (first_line bits names rows r ∷ second_line bits names refs rows r ∷ [])

-- The size of a row's two lines, as the functions compute it. 8 is 2 bytes of ` [` and 6 of `kind_mark`.
unfoldable pub row_size : ℕ → (names : List ℕ) → List Row → Row → ℕ
row_size bits names rows r =
    let one : ℕ = 2 + bits / 4 in
    one + 8 + digit_count (bytes_of rows r) + length (type_of names rows r) + 1 + one + r.count * (1 + one) + 1

-- The size of a row's two lines, or none for an object or object array whose class row is missing.
unfoldable pub row_size_or_none : ℕ → (names : List ℕ) → List Row → Row → Option ℕ
row_size_or_none bits names rows r = cond (class_missing rows r) None (Some (row_size bits names rows r))

module _ (bits : ℕ) (names : List ℕ) (rows : List Row) (r : Row) where
  -- A size means that it is the row's and its class row is not missing; none means that the class row is missing.
  abbrev pub SizeMeans : Option ℕ → Type 0
  SizeMeans (Some n) = (class_missing rows r ≡ false) × (n ≡ row_size bits names rows r)
  SizeMeans None = class_missing rows r ≡ true

  -- The result of `row_size_or_none` has this meaning.
  pub size_means : (f : Option ℕ) → f ≡ row_size_or_none bits names rows r → SizeMeans f
  unfolding row_size_or_none
  size_means f q = rw q (by_cases (λ t. SizeMeans (cond t None (Some (row_size bits names rows r)))) (class_missing rows r) (λ p. p) (λ p. (p, refl)))

-- ---- equality with the definition

-- The first line from a row's bytes and type is the first line of the definition.
pub label_line_is_first_line : (bits : ℕ) (names : List ℕ) (rows : List Row) (r : Row) → label_line bits r (bytes_of rows r) (type_of names rows r) ≡ first_line bits names rows r
unfolding label_line first_line kind_mark
label_line_is_first_line bits names rows r = refl

-- ---- bounds

-- If the numbers of all rows are in bounds, so are those of the class row whose name is part of a row's type.
pub naming_class_in_bounds : (names : List ℕ) (rows : List Row) (r : Row) → AllNumbersInBounds names rows → RowNumbersInBounds names r → RowNumbersInBounds names (naming_class rows r)
unfolding naming_class found_row
naming_class_in_bounds names rows r a s = by_kind (is_kind 1 r) (is_kind 4 r)
  where
    none : RowNumbersInBounds names zero_row
    none = record { name_in_bounds = omega arith; short = omega arith; size = omega arith; few = omega arith; prim_lt = omega arith }

    found : (f : Option ℕ) → class_at rows r.class ≡ f → RowNumbersInBounds names (found_row rows f)
    found (Some i) e = all_nth _ rows i a.row (found_in_bounds _ rows i e)
    found None e = none

    by_kind : (b c : Bool) → RowNumbersInBounds names (cond b r (cond c zero_row (found_row rows (class_at rows r.class))))
    by_kind true c = s
    by_kind false true = none
    by_kind false false = found _ refl

-- The bytes of a row are below 2^34.
pub bytes_of_lt : (names : List ℕ) (rows : List Row) (r : Row) → AllNumbersInBounds names rows → RowNumbersInBounds names r → bytes_of rows r < 2 ^ 34
unfolding bytes_of
bytes_of_lt names rows r a s = by_kind (is_kind 1 r) (is_kind 2 r)
  where
    by_kind : (b c : Bool) → cond b 0 (cond c (naming_class rows r).size (4 * r.size)) < 2 ^ 34
    by_kind true c = omega arith
    by_kind false true = let n = naming_class_in_bounds names rows r a s in omega arith
    by_kind false false = omega arith

-- ---- sizes

-- A type is at most three bytes longer than the name in it.
type_le : (names : List ℕ) (rows : List Row) (r : Row) → length (type_of names rows r) ≤ 3 + length (name_of names (naming_class rows r))
unfolding type_of primitive_array_type object_array_type
type_le names rows r = by_kind (is_kind 4 r) (is_kind 3 r) (eqb (get_or (name_of names (naming_class rows r)) 0 0) 0x5B) (name_of names (naming_class rows r))
  where
    by_kind : (b c d : Bool) (name : List ℕ) → length (cond b (primitive_array_type r.prim) (cond c (cond d (ascii "[" ++ name) (ascii "[L" ++ (name ++ ascii ";"))) name)) ≤ 3 + length name
    by_kind true c d name = omega arith
    by_kind false true true name = omega arith
    by_kind false true false name = simp length-append (omega arith)
    by_kind false false d name = omega arith

length_mark : (kind : ℕ) → length (kind_mark kind) ≡ 6
unfolding kind_mark
length_mark kind = by_kind (eqb kind 1)
  where
    by_kind : (b : Bool) → length (cond b (ascii "] CLS ") (ascii "] OBJ ")) ≡ 6
    by_kind true = refl
    by_kind false = refl

-- The length of a row's two lines is `row_size`, if the row's references are in bounds.
pub length_row_text : (bits : ℕ) (names refs : List ℕ) (rows : List Row) (r : Row) → r.first + r.count ≤ length refs
    → length (row_text bits names refs rows r) ≡ row_size bits names rows r
unfolding row_text unlines row_size second_line label_line
length_row_text bits names refs rows r l =
    rw (← label_line_is_first_line) (simp (length-append, length_address, length_decimal, length_refs_text, length_mark, length_refs_of) (omega arith))

-- A row's two lines have at most 65,700 bytes and 19 for each reference.
pub row_size_le : (bits : ℕ) (names : List ℕ) (rows : List Row) (r : Row) → ValidBits bits → AllNumbersInBounds names rows → RowNumbersInBounds names r
    → row_size bits names rows r ≤ 65700 + r.count * 19
unfolding row_size
row_size_le bits names rows r w a s =
    let n = naming_class_in_bounds names rows r a s in
    let b = bytes_of_lt names rows r a s in
    let p = digit_count_le_20 (bytes_of rows r) (omega arith) in
    let t = type_le names rows r in
    let m = length_name_of names (naming_class rows r) n.name_in_bounds in
    ⊎_elim (λ e. rw e (omega arith)) (λ e. rw e (omega arith)) w

-- A row's two lines are the first line, its line end, the second line and its line end.
pub row_text_parts : (bits : ℕ) (names refs : List ℕ) (rows : List Row) (r : Row)
    → row_text bits names refs rows r ≡ first_line bits names rows r ++ ((0x0A ∷ []) ++ (second_line bits names refs rows r ++ (0x0A ∷ [])))
unfolding row_text unlines
row_text_parts bits names refs rows r = refl

-- The same, with the first line from the row's label.
pub row_text_label_parts : (bits : ℕ) (names refs : List ℕ) (rows : List Row) (r : Row) (label : Label) → IsLabel names rows r label
    → row_text bits names refs rows r
    ≡ label_line bits r label.bytes (type_text label.type_name) ++ ((0x0A ∷ []) ++ ((address bits (class_of names rows r) ++ refs_text bits (refs_of refs r)) ++ (0x0A ∷ [])))
unfolding second_line
row_text_label_parts bits names refs rows r label l = rw (l.bytes, l.type_is, label_line_is_first_line) (row_text_parts bits names refs rows r)

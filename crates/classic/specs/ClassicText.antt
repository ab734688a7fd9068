-- Classic text (docs/FORMAT.md 7): addresses, class rows, the two lines of a row, the trailers, and the text as a list of lines.
-- All theorems about the text use these definitions. A reader must believe them, those of digits (numbers as bytes) and of RowBytes
-- (the class of a row, and its bytes).
use Rattle.std.specs.Prelude.{ℕ, ◌+◌, ◌/◌, Bool, true, cond, ◌&&◌, ◌||◌, List, [], ◌∷◌, ◌++◌, length, get_or, leb, eqb, Option}
use Rattle.decode.specs.declared.StringSpan.{StringSpan}
use Rattle.encode.specs.Encode.{join}
use Rattle.digits.specs.Digits.{ascii, text_decimal, upper_digits}
use Rattle.table.specs.Rows.{is_kind, refs_of, name_of, rows_of}
use Rattle.table.specs.Sums.{sum}
use Rattle.table.specs.Search.{first_row, found_row}
use Rattle.table.specs.RowBytes.{class_at, is_not_found, naming_class, bytes_of}
use Rattle.table.specs.CheckOrder.{WriteResult, checked_write}
use Rattle.table.specs.declared.Answer.{Answer}
use Rattle.table.specs.declared.Row.{Row}
use Rattle.phd.specs.Phd.{bytes_equal}
use Rattle.phd.specs.declared.Header.{Header}
use Rattle.phd_check.specs.GoodRows.{good_header, first_bad, vm_text}
use Rattle.phd_counts.specs.Counts.{kind_count, row_ref_count, nulls}

-- ---- addresses

-- The address a as text: `0x` and upper-case hexadecimal digits, 8 for W 32 and 16 for W 64. `bits` is W.
unfoldable pub address : ℕ → ℕ → List ℕ
address bits a = ascii "0x" ++ upper_digits 16 (bits / 4) a

-- ---- class rows

-- Whether a row is a class row with this name.
unfoldable pub is_class_named : List ℕ → List ℕ → Row → Bool
is_class_named names name r = is_kind 1 r && bytes_equal (name_of names r) name

-- The first class row with this name.
abbrev pub class_named : (names : List ℕ) → List Row → (name : List ℕ) → Option ℕ
class_named names rows name = first_row (is_class_named names name) rows

-- Whether a row is an object or object array: its lines need the class row of its class word.
abbrev pub needs_class : Row → Bool
needs_class r = is_kind 2 r || is_kind 3 r

-- Whether a row is an object or object array for whose class word there is no class row.
unfoldable pub class_missing : List Row → Row → Bool
class_missing rows r = needs_class r && is_not_found (class_at rows r.class)

-- ---- type and class word of a row (its bytes are in RowBytes)

-- The signature letters of the primitive types 0 to 7 (docs/FORMAT.md 3.1).
unfoldable pub letters : List ℕ
letters = ascii "ZCFDBSIJ"

-- The type of a primitive array, such as `[C`.
unfoldable pub primitive_array_type : ℕ → List ℕ
primitive_array_type type = ascii "[" ++ (get_or letters type 0 ∷ [])

-- The type of an object array: `[L` name `;`, or `[` name if the name begins with `[`.
unfoldable pub object_array_type : List ℕ → List ℕ
object_array_type name = cond (eqb (get_or name 0 0) 0x5B) (ascii "[" ++ name) (ascii "[L" ++ (name ++ ascii ";"))

-- The type of a row (docs/FORMAT.md 7.2).
unfoldable pub type_of : (names : List ℕ) → List Row → Row → List ℕ
type_of names rows r =
    let name : List ℕ = name_of names (naming_class rows r) in
    cond (is_kind 4 r) (primitive_array_type r.prim) (cond (is_kind 3 r) (object_array_type name) name)

-- The class word of a primitive array of this type: the address of the first class row that is named as the type, or 0 if there is
-- none (docs/FORMAT.md 7.3).
unfoldable pub primitive_class : (names : List ℕ) → List Row → ℕ → ℕ
primitive_class names rows type = (found_row rows (class_named names rows (primitive_array_type type))).address

-- The class word that a row's second line shows.
unfoldable pub class_of : (names : List ℕ) → List Row → Row → ℕ
class_of names rows r = cond (is_kind 4 r) (primitive_class names rows r.prim) r.class

-- ---- lines

-- The first line of a row: address, `[bytes]`, `CLS` or `OBJ`, type.
unfoldable pub first_line : ℕ → (names : List ℕ) → List Row → Row → List ℕ
first_line bits names rows r = join (
    address bits r.address
    ∷ text_decimal " [" (bytes_of rows r)
    ∷ cond (is_kind 1 r) (ascii "] CLS ") (ascii "] OBJ ")
    ∷ type_of names rows r ∷ [])

-- References as text, each after a space.
unfoldable pub refs_text : ℕ → List ℕ → List ℕ
refs_text bits [] = []
refs_text bits (a ∷ rest) = ascii " " ++ (address bits a ++ refs_text bits rest)

-- The second line of a row: class word, references.
unfoldable pub second_line : ℕ → (names refs : List ℕ) → List Row → Row → List ℕ
second_line bits names refs rows r = address bits (class_of names rows r) ++ refs_text bits (refs_of refs r)

-- The two lines of each row of a list. `rows` are all rows; classes are looked up among them.
unfoldable pub row_lines : ℕ → (names refs : List ℕ) → (rows : List Row) → List Row → List (List ℕ)
row_lines bits names refs rows [] = []
row_lines bits names refs rows (r ∷ some) =
    first_line bits names rows r ∷ second_line bits names refs rows r ∷ row_lines bits names refs rows some

-- The version line, with the VM string. Without a VM string it ends in the space.
unfoldable pub version_line : List ℕ → StringSpan → List ℕ
version_line names t = ascii "// Version: " ++ cond t.present (vm_text names t) []

-- The first trailer: the number of rows of each kind.
unfoldable pub breakdown_line : List Row → List ℕ
breakdown_line rows = join (
    text_decimal "// Breakdown - Classes: " (sum (kind_count 1) rows)
    ∷ text_decimal ", Objects: " (sum (kind_count 2) rows)
    ∷ text_decimal ", ObjectArrays: " (sum (kind_count 3) rows)
    ∷ text_decimal ", PrimitiveArrays: " (sum (kind_count 4) rows) ∷ [])

-- The second trailer: the numbers of rows, of references and nulls together, and of nulls.
unfoldable pub totals_line : List Row → List ℕ
totals_line rows = join (
    text_decimal "// EOF:  Total 'Objects',Refs(null) : " (length rows)
    ∷ text_decimal "," (sum row_ref_count rows + nulls rows)
    ∷ text_decimal "(" (nulls rows) ∷ ascii ")" ∷ [])

-- ---- the text

-- Lines as bytes, each ended by 0x0A.
unfoldable pub unlines : List (List ℕ) → List ℕ
unlines [] = []
unlines (l ∷ ls) = l ++ (0x0A ∷ unlines ls)

-- The lines of the text: the version line, two for each row, the two trailers.
unfoldable pub text_lines : Header → (names refs : List ℕ) → List Row → List (List ℕ)
text_lines h names refs rows = version_line names h.vm ∷ row_lines h.bits names refs rows rows ++ (breakdown_line rows ∷ totals_line rows ∷ [])

-- The text as bytes.
unfoldable pub text_of : Header → (names refs : List ℕ) → List Row → List ℕ
text_of h names refs rows = unlines (text_lines h names refs rows)

-- The result of writing rows and their references as classic text, under the header h, with the name bytes passed in and an
-- output of `out_capacity` bytes.
unfoldable pub text_rows : Header → (names refs : List ℕ) → List Row → ℕ → WriteResult
text_rows h names refs rows out_capacity =
    let text : List ℕ = text_of h names refs rows in
    checked_write (good_header h names rows refs) (first_bad h names refs rows) (first_row (class_missing rows) rows) (leb (length text) out_capacity) text

-- The answer of a size query for that text: the same checks in the same order, except that of the output. With reply 0 the place
-- is the number of bytes of the text.
unfoldable pub text_rows_size : Header → (names refs : List ℕ) → List Row → Answer
text_rows_size h names refs rows =
    (checked_write (good_header h names rows refs) (first_bad h names refs rows) (first_row (class_missing rows) rows) true (text_of h names refs rows)).answer

-- `text_rows` of the whole rows of a table.
abbrev pub text_result : Header → (names refs table : List ℕ) → ℕ → WriteResult
text_result h names refs table out_capacity = text_rows h names refs (rows_of table) out_capacity

-- `text_rows_size` of the whole rows of a table.
abbrev pub text_size_result : Header → (names refs table : List ℕ) → Answer
text_size_result h names refs table = text_rows_size h names refs (rows_of table)

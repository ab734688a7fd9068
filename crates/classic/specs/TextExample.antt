-- The dump of docs/FORMAT.md 9 as classic text: the tables of its reading give the eleven lines. Then an object array with nulls,
-- the types of primitive arrays, and class rows with the same address or name. All hold by computation. A reader must believe that
-- the dump (`dump`, ReadCases of phd), the lines and the types are 01's, that the array's lines are those of change request 3, and
-- that an object has the first class row with its class word, a char array the first that is named `[C`.
use Rattle.std.specs.Prelude.{◌≡◌, refl, ℕ, ◌*◌, List, [], ◌∷◌, ◌++◌, map, false}
use Rattle.phd.specs.declared.Header.{Header}
use Rattle.table.specs.Table.{row_width, row_count}
use Rattle.phd.specs.Phd.{limit, bit, max_address, bytes_equal, hash_bytes, Result, read_result}
use Rattle.phd.specs.ReadCases.{dump, unfold_all as reads_computing}
use Rattle.decode.specs.Numbers.{all_within}
use Rattle.decode.specs.Fields.{no_string}
use Rattle.table.specs.Rows.{row_at, rows_from, rows_of, refs_of, name_of}
use Rattle.phd_check.specs.GoodRows.{all_true, good_vm, good_header, good_hash, good_class, no_name, good_object, good_array, good_primitive, good_kind, good_addresses, good_span, good_numbers, good_ref, good_refs, good_row, first_bad_from}
use Rattle.table.specs.CheckOrder.{refused, done, checked_write}
use Rattle.phd_counts.specs.NullsCases.{row_of}
use Rattle.table.specs.Sums.{sum}
use Rattle.phd_counts.specs.Counts.{nulls_of, nulls}
use Rattle.table.specs.Search.{first_from, found_row}
use Rattle.digits.specs.Digits.{ascii, digit_count_in, digit_count, decimal, uppercase, upper_digits}
use Rattle.classic.specs.ClassicText.{address, is_class_named, class_missing, letters, primitive_array_type, object_array_type, type_of, primitive_class, class_of, first_line, refs_text, second_line, row_lines, version_line, breakdown_line, totals_line, unlines, text_lines, text_of, text_rows, text_rows_size, text_result, text_size_result}
use Rattle.table.specs.RowBytes.{is_class_at, naming_class, bytes_of}
use Prim.Native.String.{String}

-- For proofs by computation: unfolding this unfolds all definitions that a text is computed from.
unfoldable pub unfold_text : Unit {0}
unfolding all_within limit bit max_address bytes_equal hash_bytes row_at rows_from rows_of refs_of name_of row_count all_true good_vm good_header good_hash good_class no_name good_object good_array good_primitive good_kind good_addresses good_span good_numbers good_ref good_refs good_row first_bad_from refused done checked_write nulls_of sum nulls digit_count_in digit_count decimal uppercase upper_digits address first_from is_class_at is_class_named class_missing found_row letters primitive_array_type object_array_type naming_class type_of bytes_of primitive_class class_of first_line refs_text second_line row_lines version_line breakdown_line totals_line unlines text_lines text_of text_rows text_rows_size
unfold_text = tt

-- The expected lines.
unfoldable pub expected_lines : List String
expected_lines =
    "// Version: Test"
    ∷ "0x00001000 [0] CLS A"
    ∷ "0x00000000"
    ∷ "0x00001010 [16] OBJ A"
    ∷ "0x00001000 0x00001020"
    ∷ "0x00001020 [16] OBJ A"
    ∷ "0x00001000"
    ∷ "0x00001030 [24] OBJ [C"
    ∷ "0x00000000"
    ∷ "// Breakdown - Classes: 1, Objects: 2, ObjectArrays: 0, PrimitiveArrays: 1"
    ∷ "// EOF:  Total 'Objects',Refs(null) : 4,1(0)"
    ∷ []

-- The reading of the dump, with capacity for four rows and one reference.
abbrev example_read : Result
example_read = read_result dump (4 * row_width) 1

-- The text of what was read, with the dump as the name bytes and an output of 280 bytes, is these lines.
pub text_example : text_result example_read.header dump example_read.refs example_read.rows 280 ≡ done (unlines (map ascii expected_lines))
unfolding unfold_text reads_computing dump expected_lines
text_example = refl

-- With an output of one byte less it is refused with 17.
pub text_too_small : text_result example_read.header dump example_read.refs example_read.rows 279 ≡ refused 17 0
unfolding unfold_text reads_computing dump
text_too_small = refl

-- A size query for it returns its 280 bytes.
pub text_size_example : text_size_result example_read.header dump example_read.refs example_read.rows ≡ record { reply = 0; place = 280 }
unfolding unfold_text reads_computing dump
text_size_example = refl

-- ---- an object array with nulls

-- The rows: the class A at 0x1000, and at 0x1010 an array of A with true length 5 and two references.
abbrev array_rows : List ℕ
array_rows =
    row_of (1 ∷ 0x1000 ∷ 0 ∷ 0 ∷ 0 ∷ 0 ∷ 0 ∷ 16 ∷ 0 ∷ 0 ∷ 1 ∷ []) ++ row_of (3 ∷ 0x1010 ∷ 0x1000 ∷ 0 ∷ 0 ∷ 0 ∷ 2 ∷ 7 ∷ 5 ∷ [])

-- The expected lines: two references are listed, and the last line counts 5 with 3 nulls.
abbrev expected_array_lines : List String
expected_array_lines =
    "// Version: "
    ∷ "0x00001000 [0] CLS A"
    ∷ "0x00000000"
    ∷ "0x00001010 [28] OBJ [LA;"
    ∷ "0x00001000 0x00001000 0x00001010"
    ∷ "// Breakdown - Classes: 1, Objects: 0, ObjectArrays: 1, PrimitiveArrays: 0"
    ∷ "// EOF:  Total 'Objects',Refs(null) : 2,5(3)"
    ∷ []

-- The text of these rows is these lines.
pub array_text_example : let h : Header = record { bits = 32; hashed = false; openj9 = false; vm = no_string } in
    text_result h (0x41 ∷ []) (0x1000 ∷ 0x1010 ∷ []) array_rows 300 ≡ done (unlines (map ascii expected_array_lines))
unfolding unfold_text
array_text_example = refl

-- ---- types of primitive arrays

-- The types 0 to 7 are those of 01's table.
pub primitive_types : map primitive_array_type (0 ∷ 1 ∷ 2 ∷ 3 ∷ 4 ∷ 5 ∷ 6 ∷ 7 ∷ []) ≡ map ascii ("[Z" ∷ "[C" ∷ "[F" ∷ "[D" ∷ "[B" ∷ "[S" ∷ "[I" ∷ "[J" ∷ [])
unfolding unfold_text
primitive_types = refl

-- ---- class rows with the same address or name

-- A class row with this address, instance size, and place and length of the name; an object with this address and class word.
abbrev class_row : ℕ → ℕ → ℕ → ℕ → List ℕ
class_row a size place len = row_of (1 ∷ a ∷ 0 ∷ 0 ∷ 0 ∷ 0 ∷ 0 ∷ size ∷ 0 ∷ place ∷ len ∷ [])

abbrev object_row : ℕ → ℕ → List ℕ
object_row a class = row_of (2 ∷ a ∷ class ∷ 0 ∷ 0 ∷ [])

-- The rows: two classes at 0x1000, A and B, with an object of that class word after each; two classes that are named `[C`, at 0x2000
-- and 0x3000; a char array; an array of char arrays. The name bytes are `AB[C`.
abbrev class_rows : List ℕ
class_rows =
    class_row 0x1000 16 0 1 ++ object_row 0x1010 0x1000 ++ class_row 0x1000 24 1 1 ++ object_row 0x1020 0x1000
    ++ class_row 0x2000 0 2 2 ++ class_row 0x3000 0 2 2 ++ row_of (4 ∷ 0x1030 ∷ 0 ∷ 0 ∷ 0 ∷ 0 ∷ 0 ∷ 6 ∷ 3 ∷ 0 ∷ 0 ∷ 1 ∷ [])
    ++ row_of (3 ∷ 0x1040 ∷ 0x2000 ∷ 0 ∷ 0 ∷ 0 ∷ 0 ∷ 7 ∷ 0 ∷ [])

-- The expected lines: both objects have A's name and size, the char array's class word is 0x2000, and the type of the array of char
-- arrays is `[[C`.
abbrev expected_class_lines : List String
expected_class_lines =
    "// Version: "
    ∷ "0x00001000 [0] CLS A"
    ∷ "0x00000000"
    ∷ "0x00001010 [16] OBJ A"
    ∷ "0x00001000"
    ∷ "0x00001000 [0] CLS B"
    ∷ "0x00000000"
    ∷ "0x00001020 [16] OBJ A"
    ∷ "0x00001000"
    ∷ "0x00002000 [0] CLS [C"
    ∷ "0x00000000"
    ∷ "0x00003000 [0] CLS [C"
    ∷ "0x00000000"
    ∷ "0x00001030 [24] OBJ [C"
    ∷ "0x00002000"
    ∷ "0x00001040 [28] OBJ [[C"
    ∷ "0x00002000"
    ∷ "// Breakdown - Classes: 4, Objects: 2, ObjectArrays: 1, PrimitiveArrays: 1"
    ∷ "// EOF:  Total 'Objects',Refs(null) : 8,0(0)"
    ∷ []

-- The text of these rows is these lines.
pub class_text_example : let h : Header = record { bits = 32; hashed = false; openj9 = false; vm = no_string } in
    text_result h (0x41 ∷ 0x42 ∷ 0x5B ∷ 0x43 ∷ []) [] class_rows 500 ≡ done (unlines (map ascii expected_class_lines))
unfolding unfold_text
class_text_example = refl

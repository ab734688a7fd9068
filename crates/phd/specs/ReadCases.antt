-- The scope paper's dump (docs/FORMAT.md 9) and its cases (a) to (j), as one table and one statement, which holds by computation;
-- and the missing bytes of every cut of the dump. A reader must believe that the dump, the table and the widths are the paper's.
use Rattle.std.specs.Prelude.{◌≡◌, refl, ℕ, zero, suc, ◌*◌, true, false, List, [], ◌∷◌, ◌++◌, map, take, set}
use Rattle.decode.specs.Numbers.{value_after, signed, add_gap, to_count, all_within}
use Rattle.decode.specs.Layout.{run, ◌>>=◌, position, raw, field, check, need, reply_of, missing_of}
use Rattle.decode.specs.Fields.{exactly, below, address, ref_field, count, string}
use Rattle.phd.specs.Phd.{bit, max_address, bytes_equal, magic, magic_bytes, preamble, after_vm, header_records, make_header, header, empty_header, empty_cache, push, slot, tag_form, need_form, slot_class, moved_bit, hashed_bit, flag_byte, hash_kind, hash_bytes, width, shape, front, middle, class_name, ref_count, ref_list, spanned_refs, true_length, tail, field_or, row, from_ref_count, fields, record_body, from_tag, entry, Result, read_result}
use Rattle.table.specs.Table.{row_width}
use Rattle.reader.specs.Reader.{limit, ended, transition, step, records, initial_state, no_records, from_header, read_result as read_result_of}
use Rattle.phd.specs.declared.Header.{Header}

-- For proofs by computation: unfolding this unfolds all definitions that reading uses.
unfoldable pub unfold_all : Unit {0}
unfolding value_after signed add_gap to_count all_within run ◌>>=◌ position raw field check need reply_of missing_of exactly below address ref_field count string limit bit max_address bytes_equal magic magic_bytes preamble after_vm header_records make_header header empty_header empty_cache push slot tag_form need_form slot_class moved_bit hashed_bit flag_byte hash_kind hash_bytes width shape front middle class_name ref_count ref_list spanned_refs true_length tail field_or row from_ref_count fields record_body from_tag entry ended transition step records initial_state no_records from_header read_result_of
unfold_all = tt

-- The dump of docs/FORMAT.md 9, 74 bytes.
unfoldable pub dump : List ℕ
dump =
    0x00 ∷ 0x12 ∷ magic
    ++ 0x00 ∷ 0x00 ∷ 0x00 ∷ 0x06 ∷ 0x00 ∷ 0x00 ∷ 0x00 ∷ 0x04 ∷ 0x01 ∷ 0x04 ∷ 0x00 ∷ 0x04 ∷ 0x54 ∷ 0x65 ∷ 0x73 ∷ 0x74 ∷ 0x02 ∷ 0x02 ∷ []
    ++ 0x06 ∷ 0x40 ∷ 0x04 ∷ 0x00 ∷ 0x00 ∷ 0x00 ∷ 0x00 ∷ 0x10 ∷ 0x00 ∷ 0x00 ∷ 0x00 ∷ 0x00 ∷ 0x00 ∷ 0x01 ∷ 0x41 ∷ 0x00 ∷ 0x00 ∷ 0x00 ∷ 0x00 ∷ []
    ++ 0x48 ∷ 0x04 ∷ 0x00 ∷ 0x00 ∷ 0x10 ∷ 0x00 ∷ 0x04 ∷ []
    ++ 0x80 ∷ 0x04 ∷ []
    ++ 0x24 ∷ 0x04 ∷ 0x03 ∷ 0x00 ∷ 0x00 ∷ 0x00 ∷ 0x06 ∷ []
    ++ 0x03 ∷ []

-- The header of the dump.
unfoldable pub dump_header : Header
dump_header = record { bits = 32; hashed = false; openj9 = true; vm = record { present = true; place = 32; len = 4 } }

-- The rows of the dump, with the offsets of their records. All addresses but the first are parameters, since case (i) moves them.
unfoldable pub dump_rows : ℕ → ℕ → ℕ → List ℕ
dump_rows second third fourth =
    1 ∷ 0x1000 ∷ 0 ∷ 0 ∷ 0 ∷ 0 ∷ 0 ∷ 16 ∷ 0 ∷ 52 ∷ 1 ∷ 0 ∷ 38
    ∷ 2 ∷ second ∷ 0x1000 ∷ 0 ∷ 0 ∷ 0 ∷ 1 ∷ 0 ∷ 0 ∷ 0 ∷ 0 ∷ 0 ∷ 57
    ∷ 2 ∷ third ∷ 0x1000 ∷ 0 ∷ 0 ∷ 1 ∷ 0 ∷ 0 ∷ 0 ∷ 0 ∷ 0 ∷ 0 ∷ 64
    ∷ 4 ∷ fourth ∷ 0 ∷ 0 ∷ 0 ∷ 1 ∷ 0 ∷ 6 ∷ 3 ∷ 0 ∷ 0 ∷ 1 ∷ 66 ∷ []

-- A case: the bytes, the capacity in rows, and the expected result with capacity for one reference.
pub record Case : Type 0 where
  pub bytes : List ℕ
  pub capacity : ℕ
  pub expected : Result

-- A case from its columns: bytes, capacity in rows; reply, place, missing bytes; number of rows stored, all rows; references;
-- header.
abbrev case : List ℕ → ℕ → ℕ → ℕ → ℕ → ℕ → List ℕ → List ℕ → Header → Case
case bytes capacity reply place missing n rows refs header = record {
  bytes = bytes;
  capacity = capacity;
  expected = record { reply = reply; place = place; missing = missing; rows = take (n * row_width) rows; refs = refs; header = header };
}

-- Case (f): the whole dump and any bytes after it.
unfoldable pub case_f : List ℕ → Case
case_f more = case (dump ++ more) 4 0 74 0 4 (dump_rows 0x1010 0x1020 0x1030) (0x1020 ∷ []) dump_header

-- The table of cases.
unfoldable pub cases : List Case
cases =
    let rows : List ℕ = dump_rows 0x1010 0x1020 0x1030 in
    let refs : List ℕ = 0x1020 ∷ [] in
    -- (a) with no bytes and with 37; (b) to (e); (f), and (f) with the beginning of a record after it; (g)
    case (take 0 dump) 4 1 0 2 0 [] [] empty_header
    ∷ case (take 37 dump) 4 1 0 1 0 [] [] empty_header
    ∷ case (take 38 dump) 4 1 38 1 0 [] [] dump_header
    ∷ case (take 64 dump) 4 1 64 1 2 rows refs dump_header
    ∷ case (take 65 dump) 4 1 64 1 2 rows refs dump_header
    ∷ case (take 73 dump) 4 1 73 1 4 rows refs dump_header
    ∷ case_f []
    ∷ case_f (0x06 ∷ 0xFF ∷ [])
    ∷ case dump 3 13 66 0 3 rows refs dump_header
    -- (h) tag A0 in the third record, (i) gap FF in the second, (j) gap 80 00 in the first
    ∷ case (set dump 64 0xA0) 4 10 64 0 2 rows refs dump_header
    ∷ case (set dump 58 0xFF) 4 0 74 0 4 (dump_rows 0x0FFC 0x100C 0x101C) (0x100C ∷ []) dump_header
    ∷ case (set dump 40 0x80) 4 8 38 0 0 [] [] dump_header
    ∷ []

-- The result of reading the bytes of a case.
abbrev pub actual : Case → Result
actual c = read_result c.bytes (c.capacity * row_width) 1

-- Every case gives its expected result.
pub cases_hold : map actual cases ≡ map (λ c. c.expected) cases
unfolding unfold_all dump dump_header dump_rows case_f cases
cases_hold = refl

-- ---- missing bytes of every cut

-- The widths of the fields of the dump: those of the header, of the four records and of the end tag.
unfoldable pub field_widths : List ℕ
field_widths =
    2 ∷ 18 ∷ 4 ∷ 4 ∷ 1 ∷ 1 ∷ 2 ∷ 4 ∷ 1 ∷ 1
    ∷ 1 ∷ 1 ∷ 2 ∷ 4 ∷ 4 ∷ 2 ∷ 1 ∷ 4
    ∷ 1 ∷ 1 ∷ 4 ∷ 1
    ∷ 1 ∷ 1
    ∷ 1 ∷ 1 ∷ 1 ∷ 4
    ∷ 1 ∷ []

-- The missing bytes of a field of the given width with 0 of its bytes present, with 1, and so on.
unfoldable pub field_deficits : ℕ → List ℕ
field_deficits zero = []
field_deficits (suc w) = suc w ∷ field_deficits w

-- The missing bytes of the first n bytes of the dump, of the first n + 1, and so on, k times.
unfoldable pub missing_at_cuts : ℕ → ℕ → List ℕ
missing_at_cuts zero n = []
missing_at_cuts (suc k) n = (read_result (take n dump) (4 * row_width) 1).missing ∷ missing_at_cuts k (suc n)

-- The missing bytes of all cuts by the widths of the fields, and 0 for the whole dump.
unfoldable pub dump_deficits : List ℕ → List ℕ
dump_deficits [] = 0 ∷ []
dump_deficits (w ∷ ws) = field_deficits w ++ dump_deficits ws

-- At every cut the missing bytes are those that the current field lacks; the whole dump has none missing.
pub missing_at_every_cut : missing_at_cuts 75 0 ≡ dump_deficits field_widths
unfolding unfold_all dump field_widths field_deficits missing_at_cuts dump_deficits
missing_at_every_cut = refl

-- Writing tables as a dump (docs/FORMAT.md 6): the bytes of the whole dump, the result of a write, refusals included, and the
-- answer of a size query.
-- A reader must believe these definitions.
use Rattle.std.specs.Prelude.{ℕ, ◌+◌, Bool, cond, ◌&&◌, List, [], ◌∷◌, ◌++◌, length, leb, eqb, None}
use Rattle.decode.specs.declared.StringSpan.{StringSpan}
use Rattle.encode.specs.Encode.{join, be}
use Rattle.phd.specs.Phd.{limit, magic, empty_cache}
use Rattle.phd.specs.declared.cache.Cache.{Cache}
use Rattle.phd.specs.declared.Header.{Header}
use Rattle.table.specs.Rows.{Rec, recs, rows_of}
use Rattle.table.specs.declared.Row.{Row}
use Rattle.phd_check.specs.GoodRows.{good_header, first_bad, vm_text}
use Rattle.phd_check.specs.declared.Tables.{Tables}
use Rattle.table.specs.CheckOrder.{WriteResult, checked_write}
use Rattle.table.specs.declared.Answer.{Answer}
use Rattle.phd_encode.specs.EncodeRecord.{encode_record, cache_after}

-- ---- bytes of a dump

-- What a flag adds to the header flags: n if it is set, else 0.
abbrev pub flag_value : Bool → ℕ → ℕ
flag_value b n = cond b n 0

-- The header flags: 1 if W is 64, plus 2 if all-hashed, plus 4 if from OpenJ9.
unfoldable pub header_flags : Header → ℕ
header_flags h = flag_value (eqb h.bits 64) 1 + flag_value h.hashed 2 + flag_value h.openj9 4

-- The header record of the VM string, if there is one; its place and length select its bytes from the name bytes.
unfoldable pub encode_vm : List ℕ → StringSpan → List ℕ
encode_vm names t = cond t.present (join (be 1 4 ∷ be 2 t.len ∷ vm_text names t ∷ [])) []

-- The preamble: the opening string, the version, the flags and the byte 1.
unfoldable pub encode_preamble : ℕ → List ℕ
encode_preamble flags = join (be 2 18 ∷ magic ∷ be 4 6 ∷ be 4 flags ∷ be 1 1 ∷ [])

-- The header: the preamble, the VM string, the byte 2 that ends the header and the byte 2 that starts the body.
unfoldable pub encode_header : List ℕ → Header → List ℕ
encode_header names h = join (encode_preamble (header_flags h) ∷ encode_vm names h.vm ∷ be 1 2 ∷ be 1 2 ∷ [])

-- Records in order, and the end tag; the first one follows a record at the address `before`, with the cache c.
unfoldable pub encode_records : Header → ℕ → Cache → List Rec → List ℕ
encode_records h before c [] = be 1 3
encode_records h before c (r ∷ rs) = encode_record h before c r ++ encode_records h r.row.address (cache_after h before c r) rs

-- The whole dump: the header, the records and the end tag. Before the first record the address is 0 and the cache is empty.
unfoldable pub encode_dump : List ℕ → Header → List Rec → List ℕ
encode_dump names h rs = encode_header names h ++ encode_records h 0 empty_cache rs

-- ---- results

-- The dump is within the capacity of the output and the size limit.
unfoldable pub fits_capacity : ℕ → List ℕ → Bool
fits_capacity out_capacity dump = leb (length dump) out_capacity && leb (length dump) limit

-- The result of writing rows and their references under the header h, with the name bytes `names` and an output of `out_capacity`
-- bytes. Writing does not look for the classes of rows, so it never replies 18.
unfoldable pub write_rows : Header → (names refs : List ℕ) → List Row → ℕ → WriteResult
write_rows h names refs rows out_capacity =
    let dump : List ℕ = encode_dump names h (recs names refs rows) in
    checked_write (good_header h names rows refs) (first_bad h names refs rows) None (fits_capacity out_capacity dump) dump

-- The answer of a size query for that dump: the same checks in the same order, except that of the output; the size limit remains.
-- With reply 0 the place is the size of the dump in bytes.
unfoldable pub write_rows_size : Header → (names refs : List ℕ) → List Row → Answer
write_rows_size h names refs rows =
    let dump : List ℕ = encode_dump names h (recs names refs rows) in
    (checked_write (good_header h names rows refs) (first_bad h names refs rows) None (leb (length dump) limit) dump).answer

-- The result of writing the whole rows of a table.
abbrev pub write_result : Header → (names refs table : List ℕ) → ℕ → WriteResult
write_result h names refs table out_capacity = write_rows h names refs (rows_of table) out_capacity

-- The answer of a size query for the whole rows of a table.
abbrev pub write_size_result : Header → (names refs table : List ℕ) → Answer
write_size_result h names refs table = write_rows_size h names refs (rows_of table)

-- The same two, for the tables that are passed.
abbrev pub write_of : Tables → ℕ → WriteResult
write_of t out_capacity = write_result t.header t.names.now t.refs.now t.rows.now out_capacity

abbrev pub write_size_of : Tables → Answer
write_size_of t = write_size_result t.header t.names.now t.refs.now t.rows.now

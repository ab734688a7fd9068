-- The scope paper's dump (docs/FORMAT.md 9), written: its rows and references, as read, give its 74 bytes. Proved by computation.
-- A reader must believe that the dump and the tables are the scope paper's (ReadCases of phd).
use Rattle.std.specs.Prelude.{◌≡◌, refl, [], ◌∷◌}
use Rattle.decode.specs.Numbers.{all_within}
use Rattle.encode.specs.Encode.{be, gap, twos_complement, fits, width_code, refs_code, encode_ref_list}
use Rattle.phd.specs.Phd.{limit, bit, max_address, magic, empty_cache, push, hash_bytes, width, shape}
use Rattle.phd.specs.ReadCases.{dump, dump_header, dump_rows}
use Rattle.table.specs.Rows.{row_at, rows_from, rows_of, refs_of, name_of, without_place, rec_of, recs}
use Rattle.table.specs.Table.{row_count}
use Rattle.phd_check.specs.GoodRows.{all_true, good_vm, good_header, good_hash, good_class, no_name, good_object, good_array, good_primitive, good_kind, good_addresses, good_span, good_numbers, good_ref, good_refs, good_row, first_bad_from}
use Rattle.table.specs.CheckOrder.{refused, done, checked_write}
use Rattle.phd_plan.specs.FormChoice.{slot_holds, find_slot, plan_input, needs_flag_byte, object_form, form_of, tag_of, hash_flags, class_flags, flags_of, make_plan}
use Rattle.phd_encode.specs.EncodeRecord.{encode_tag, encode_front, encode_middle, encode_name, encode_refs, encode_tail, encode_fields, encode_planned, plan_record, encode_record, cache_after}
use Rattle.phd_write.specs.Write.{header_flags, encode_vm, encode_preamble, encode_header, encode_records, encode_dump, fits_capacity, write_rows, write_rows_size, write_result, write_size_result}

-- For proofs by computation: unfolding this unfolds every definition that a write uses.
unfoldable pub unfold_write : Unit {0}
unfolding all_within be gap twos_complement fits width_code refs_code encode_ref_list limit bit max_address magic empty_cache push hash_bytes width shape row_at refs_of name_of without_place rec_of recs rows_from rows_of row_count all_true good_vm good_header good_hash good_class no_name good_object good_array good_primitive good_kind good_addresses good_span good_numbers good_ref good_refs good_row first_bad_from slot_holds find_slot plan_input needs_flag_byte object_form form_of tag_of hash_flags class_flags flags_of make_plan encode_tag encode_front encode_middle encode_name encode_refs encode_tail encode_fields encode_planned plan_record encode_record cache_after header_flags encode_vm encode_preamble encode_header encode_records encode_dump refused done checked_write fits_capacity write_rows write_rows_size
unfold_write = tt

-- Its rows and references, with the dump itself as the name bytes, fit an output of exactly 74 bytes.
pub write_example : write_result dump_header dump (0x1020 ∷ []) (dump_rows 0x1010 0x1020 0x1030) 74 ≡ record { answer = record { reply = 0; place = 74 }; bytes = dump }
unfolding unfold_write dump dump_header dump_rows
write_example = refl

-- An output of 73 bytes is refused with 17.
pub write_too_small : write_result dump_header dump (0x1020 ∷ []) (dump_rows 0x1010 0x1020 0x1030) 73 ≡ record { answer = record { reply = 17; place = 0 }; bytes = [] }
unfolding unfold_write dump dump_header dump_rows
write_too_small = refl

-- The size query answers 74.
pub write_size_example : write_size_result dump_header dump (0x1020 ∷ []) (dump_rows 0x1010 0x1020 0x1030) ≡ record { reply = 0; place = 74 }
unfolding unfold_write dump dump_header dump_rows
write_size_example = refl

-- A written dump, whole or cut anywhere, is read back if the tables have capacity for all of it.
-- Assumes nothing.
use Rattle.std.specs.Prelude.{◌≡◌, ℕ, suc, ◌+◌, ◌*◌, ◌≤◌, ◌<◌, true, cond, length, take, leb}
use Rattle.std.proofs.Math.Path.{refl}
use Rattle.std.proofs.Math.Nat.{zero-add}
use mathlib.Core.List.{List, [], ◌++◌}
use Rattle.std.proofs.Common.{length-append, length-take, le-leb}
use native.Mathlib.Omega.{arith}
use Rattle.std.proofs.Math.Decide.{dec_le}
use Rattle.std.proofs.lemmas.Bool.{lt-leb}
use Rattle.decode.specs.Layout.{whole, run, reply_of}
use Rattle.decode.specs.CutLaws.{run_prefix, prefix_cut}
use Rattle.decode.specs.declared.Stop.TheVariants.{Cut}
use Rattle.table.specs.Table.{row_width, row_count}
use Rattle.phd.specs.Phd.{limit, empty_cache, header, empty_header, Result, phd, capacity, initial_state, read_result}
use Rattle.phd.specs.Shapes.{ValidBits}
use Rattle.phd.specs.declared.Header.{Header}
use Rattle.reader.specs.Reader.{initial_state as initial_state_of, no_records as no_records_of}
use Rattle.reader.specs.Steps.{read_header_whole, read_header_stops}
use Rattle.table.specs.Rows.{Rec, recs, first_recs}
use Rattle.phd_check.specs.GoodRows.{good_vm}
use Rattle.phd_write.specs.Write.{encode_header, encode_records, encode_dump}
use Rattle.phd_round_trip.specs.CutRecords.{all_refs, within_cut, cut_recs, stop_at}
use Rattle.phd_round_trip.specs.CutRecordLaws.{AllGood, within_cut_none, records_lt_bytes, encode_records_same, stop_in_same, within_cut_same, all_good_same}
use Rattle.phd_round_trip.specs.HeaderRoundTrip.{written_header, decode_encode_header}
use Rattle.phd_round_trip.specs.PrefixReading.{decoded_rows, length_decoded_rows, Remaining, reads_records}
use Rattle.phd_round_trip.specs.DecodedRows.{decoded_cut_recs}

-- A header and records that can be written, as a dump within the size limit.
pub record GoodDump (names : List ℕ) (h : Header) (rs : List Rec) : Type 0 where
  pub bits : ValidBits h.bits
  pub vm : good_vm names h.vm ≡ true
  pub records : AllGood h 0 rs
  pub size : length (encode_dump names h rs) ≤ limit

-- The result rd of reading the first m bytes gives the rows and references of the records within this cut.
pub record ReadsCut (names : List ℕ) (h : Header) (rs : List Rec) (m : ℕ) (rd : Result) : Type 0 where
  pub rows : rd.rows ≡ decoded_rows (written_header h) (length (encode_header names h)) 0 empty_cache (cut_recs names h rs m)
  pub refs : rd.refs ≡ all_refs (cut_recs names h rs m)
  pub reply : rd.reply ≡ cond (leb (length (encode_dump names h rs)) m) 0 1
  pub place : rd.place ≡ stop_at names h rs m
  pub header : length (encode_header names h) ≤ m → rd.header ≡ written_header h
  pub no_header : m < length (encode_header names h) → rd.header ≡ empty_header

module _ (names : List ℕ) (h : Header) (rs : List Rec) (m R F : ℕ) (g : GoodDump names h rs)
    (p : row_width * length rs ≤ R) (q : length (all_refs rs) ≤ F) where
  -- The bytes of the header, the header as it is read, the dump, and the rows of the records within the cut.
  abbrev header_bytes : List ℕ
  header_bytes = encode_header names h

  abbrev read_header : Header
  read_header = written_header h

  abbrev dump : List ℕ
  dump = encode_dump names h rs

  abbrev decoded_cut_rows : List ℕ
  decoded_cut_rows = decoded_rows read_header (length header_bytes) 0 empty_cache (cut_recs names h rs m)

  -- The bytes of the dump, and the records within the cut, are the same under the header as it is read.
  pub dump_is : dump ≡ header_bytes ++ encode_records read_header 0 empty_cache rs
  unfolding encode_dump
  dump_is = rw (encode_records_same h read_header refl 0 empty_cache rs)

  cut_recs_same : cut_recs names h rs m ≡ within_cut m read_header (length header_bytes) 0 empty_cache rs
  cut_recs_same = within_cut_same h read_header refl m (length header_bytes) 0 empty_cache rs

  total : length dump ≡ length header_bytes + length (encode_records read_header 0 empty_cache rs)
  total = rw dump_is (length-append header_bytes (encode_records read_header 0 empty_cache rs))

  -- The header of the dump is read back.
  pub header_decoded : run header dump 0 ≡ whole read_header (length header_bytes)
  unfolding encode_dump
  header_decoded = rw zero-add at ((decode_encode_header names h g.bits g.vm).reads [] (encode_records h 0 empty_cache rs) refl)

  short : length (take m dump) ≤ limit
  short = let s = g.size in simp length-take (omega arith)

  -- The records are good under the header as it is read.
  pub dump_records_good : AllGood read_header 0 rs
  dump_records_good = all_good_same h read_header refl refl 0 rs g.records

  remaining : Remaining read_header R F (suc limit) (initial_state (length header_bytes)) rs
  unfolding initial_state_of
  remaining =
      let s = g.size in
      let t = total in
      let b = records_lt_bytes read_header 0 empty_cache rs in
      record { bits = g.bits; good = dump_records_good; aligned = refl; most = omega arith; count = omega arith; capacity = omega arith; ref_capacity = omega arith }

  -- `ReadsCut` for a cut after the header.
  after_header : length header_bytes ≤ m → ReadsCut names h rs m (read_result (take m dump) R F)
  unfolding initial_state_of
  after_header l =
      let b = reads_records read_header R F m (suc limit) rs (initial_state (length header_bytes)) header_bytes refl l remaining in
      rw (read_header_whole phd (take m dump) (capacity R F) read_header (length header_bytes) short (run_prefix header dump 0 m read_header (length header_bytes) header_decoded l), dump_is)
      (record { rows = rw cut_recs_same b.rows; refs = rw cut_recs_same b.refs; reply = rw total b.reply; place = rw (le-leb (length header_bytes) m l, stop_in_same h read_header refl m (length header_bytes) 0 empty_cache rs) b.place; header = λ _. b.header; no_header = λ j. absurd (omega arith) })

  -- `ReadsCut` for a cut within the header.
  in_header : m < length header_bytes → ReadsCut names h rs m (read_result (take m dump) R F)
  unfolding decoded_rows all_refs no_records_of reply_of
  in_header l =
      let c = prefix_cut header dump 0 m read_header (length header_bytes) header_decoded (omega arith) l in
      let e : cut_recs names h rs m ≡ [] = within_cut_none m h (length header_bytes) 0 empty_cache rs l in
      let t = total in
      rw (read_header_stops phd (take m dump) (capacity R F) (Cut c.deficit) short c.is)
      (record {
        rows = rw e;
        refs = rw e;
        reply = rw (lt-leb (length dump) m (omega arith));
        place = rw (lt-leb (length header_bytes) m l);
        header = λ j. absurd (omega arith);
        no_header = λ _. refl;
      })

  -- A reading of any cut of a written dump gives `ReadsCut`.
  pub reads_cut : ReadsCut names h rs m (read_result (take m dump) R F)
  reads_cut = elim (dec_le (length header_bytes) m) [ yes l ↦ after_header l | no l ↦ in_header (omega arith) ]

  -- A reading of a cut counts as many rows as there are records within the cut.
  pub cut_recs_count : row_count (read_result (take m dump) R F).rows ≡ length (cut_recs names h rs m)
  unfolding row_count
  cut_recs_count =
      let t = length_decoded_rows read_header (length header_bytes) 0 empty_cache (cut_recs names h rs m) in
      rw (reads_cut.rows, t) (omega arith)

  -- The tables hold the records within the cut, whatever follows the stored numbers.
  abbrev Holds : (more_rows more_refs : List ℕ) → Type 0
  Holds more_rows more_refs =
      first_recs (length (cut_recs names h rs m)) (take m dump) (all_refs (cut_recs names h rs m) ++ more_refs) (decoded_cut_rows ++ more_rows) ≡ cut_recs names h rs m

  holds_after : (more_rows more_refs : List ℕ) → length header_bytes ≤ m → Holds more_rows more_refs
  holds_after more_rows more_refs l =
      rw (cut_recs_same, dump_is)
      (decoded_cut_recs read_header m 0 empty_cache header_bytes more_rows more_refs rs
      (record { bits = g.bits; good = dump_records_good; aligned = refl; most = omega arith }) l)

  holds_in : (more_rows more_refs : List ℕ) → m < length header_bytes → Holds more_rows more_refs
  unfolding recs
  holds_in more_rows more_refs l = rw (within_cut_none m h (length header_bytes) 0 empty_cache rs l)

  -- After a reading of a cut the tables hold the records within it, whatever follows the stored numbers.
  pub cut_recs_decoded : (more_rows more_refs : List ℕ)
      → first_recs (row_count (read_result (take m dump) R F).rows) (take m dump) ((read_result (take m dump) R F).refs ++ more_refs) ((read_result (take m dump) R F).rows ++ more_rows)
      ≡ cut_recs names h rs m
  cut_recs_decoded more_rows more_refs =
      rw (cut_recs_count, reads_cut.rows, reads_cut.refs)
      (elim (dec_le (length header_bytes) m) [ yes l ↦ holds_after more_rows more_refs l | no l ↦ holds_in more_rows more_refs (omega arith) ])

-- Each record of a written dump is the shortest: with the same header, previous address and cache, no shorter run of bytes is
-- read as one record that is the same as its row. Nothing is claimed about a whole dump.
-- A reader must believe the statement, and ReadAs. Assumes nothing.
use Rattle.std.specs.Prelude.{◌≡◌, refl, ℕ, ◌+◌, ◌-◌, ◌*◌, ◌≤◌, ◌<◌, List, ◌∷◌, length, drop}
use Rattle.std.proofs.Common.{sym, ◌∙◌, arith}
use Rattle.decode.specs.Layout.{whole}
use Rattle.table.specs.Table.{row_width, row_count}
use Rattle.table.specs.Rows.{Rec, rec_of, recs, nth}
use Rattle.table.specs.CheckOrder.{done}
use Rattle.table.specs.declared.Row.{Row}
use Rattle.phd.specs.Phd.{RecordContext, item, State, Result, phd, capacity, initial_state, read_result}
use Rattle.phd.specs.declared.Header.{Header}
use Rattle.phd.specs.declared.Span.{Span}
use Rattle.reader.specs.Reader.{next_item, initial_state as initial_state_of}
use Rattle.reader.specs.RowOrigins.{RowOrigin}
use Rattle.phd_read.specs.ReadTheorems.{row_origins, row_record_number}
use Rattle.phd_write.specs.Write.{encode_header, write_rows}
use Rattle.phd_write.specs.WriteTerms.{dump_of}
use Rattle.phd_write.specs.WriteOutcomes.{reply_0_means}
use Rattle.phd_round_trip.specs.CutRecords.{all_refs}
use Rattle.phd_round_trip.specs.RoundTripTheorems.{round_trip}
use Rattle.phd_round_trip.specs.HeaderRoundTrip.{written_header}
use Rattle.phd_round_trip.specs.DumpRoundTrip.{GoodDump, dump_is, header_decoded, dump_records_good}
use Rattle.phd_round_trip.specs.WrittenIsGood.{written_is_good, rows_capacity}
use Rattle.phd_round_trip.specs.RecordRoundTrip.{decoded_row, refs_place}
use Rattle.phd_shortest.specs.ReadAs.{ReadAs, ShortestAt}
use Rattle.phd_shortest.specs.RecordShortest.{read_rec_encoded, encoded_shortest}
use Rattle.phd_shortest.specs.RemainingRecords.{RecordsRemain, encoded, context_after, bytes_after, dump_split, finds_record, remain_after, record_remains, nth_rec}

-- ---- the next record

-- A record that a reading finds in the state st, in which the written record r is the next to come.
module _ (h : Header) (s : List ℕ) (st : State) (r : Rec) (rs : List Rec) (a : RecordsRemain h s st (r ∷ rs))
    (row refs : List ℕ) (sp : Span) (k : RecordContext) (e : ℕ) (g : next_item phd h s st ≡ whole (item row refs sp k) e) where
  found_is : whole (item row refs sp k) e
      ≡ whole (item (decoded_row h st.at st.context.address st.context.cache r) r.refs (refs_place h st.at st.context.address st.context.cache r) (context_after h s st r rs a)) (st.at + length (encoded h s st r rs a))
  found_is = sym g ∙ finds_record h s st r rs a

  -- Its bytes are read as r.
  reads_at : ReadAs h st.context r s st.at e
  reads_at =
      let f = found_is in
      let x : row ≡ decoded_row h st.at st.context.address st.context.cache r = cc in
      let y : refs ≡ r.refs = cc in
      let t = a.good.0 in
      let b = read_rec_encoded h st.context (length st.refs) r a.bits t.good t.place_zero a.aligned a.most a.pre (bytes_after h s st r rs a) st.at a.place in
      record { index = length st.refs; row = row; refs = refs; span = sp; after = k; reads = g; same = rw (x, y, dump_split h s st r rs a) b }

  -- No shorter run of bytes is read as r.
  least_at : (s' : List ℕ) (at end : ℕ) → ReadAs h st.context r s' at end → at + (e - st.at) ≤ end
  least_at s' at end x =
      let f = found_is in
      let n : e ≡ st.at + length (encoded h s st r rs a) = cc in
      let t = a.good.0 in
      let l = encoded_shortest h st.context (length st.refs) r a.bits t.good t.place_zero a.aligned a.most s' at end x in
      omega arith

-- ---- a written dump

module _ (h : Header) (names refs : List ℕ) (rows : List Row) (out_capacity R F : ℕ) (z : (write_rows h names refs rows out_capacity).answer.reply ≡ 0)
    (p : length rows * row_width ≤ R) (q : length (all_refs (recs names refs rows)) ≤ F) where
  abbrev rs : List Rec
  rs = recs names refs rows

  abbrev dump : List ℕ
  dump = dump_of h names refs rows

  abbrev rd : Result
  rd = read_result dump R F

  g : GoodDump names h rs
  g = written_is_good h names refs rows out_capacity z

  rows_fit : row_width * length rs ≤ R
  rows_fit = rows_capacity names refs rows R p

  -- Before the first record all records remain, under the header as it is read.
  remain_start : RecordsRemain (written_header h) dump (initial_state (length (encode_header names h))) rs
  unfolding initial_state_of
  remain_start = record {
    bits = g.bits;
    pre = encode_header names h;
    place = refl;
    dump = dump_is names h rs 0 R F g rows_fit q;
    good = dump_records_good names h rs 0 R F g rows_fit q;
    aligned = refl;
    most = omega arith;
  }

  module _ (i : ℕ) (x : RowOrigin phd rd.header dump (capacity R F) rd.rows rd.refs i) (c : x.count ≡ i) where
    -- The same with the header of the result, and the offset where the reading found the first record.
    remain_at_start : RecordsRemain rd.header dump (initial_state x.start) rs
    remain_at_start =
        let u : whole rd.header x.start ≡ whole (written_header h) (length (encode_header names h)) = sym x.header_whole ∙ header_decoded names h rs 0 R F g rows_fit q in
        let f : rd.header ≡ written_header h = cc in
        let n : x.start ≡ length (encode_header names h) = cc in
        rw (f, n) remain_start

    remain_at_record : RecordsRemain rd.header dump x.before (drop i rs)
    remain_at_record = remain_after rd.header dump R F x.start rs remain_at_start i x.before (rw c at x.reached)

    found_shortest : ShortestAt dump (capacity R F) rd (rec_of names refs (nth rows i)) i
    found_shortest =
        let o = record_remains rd.header dump x.before (drop i rs) remain_at_record _ x.list x.note x.context x.end x.item_is in
        let a : RecordsRemain rd.header dump x.before (o.0 ∷ o.1) = rw o.2 at remain_at_record in
        let r : o.0 ≡ rec_of names refs (nth rows i) = nth_rec names refs rows i o.0 o.1 o.2 in
        rw (← r) (record {
          found = x;
          is_read = reads_at rd.header dump x.before o.0 o.1 a _ x.list x.note x.context x.end x.item_is;
          least = λ s at end y. omega (arith, least_at rd.header dump x.before o.0 o.1 a _ x.list x.note x.context x.end x.item_is s at end y);
        })

-- ---- the theorem

-- Record number i of a written dump, read into tables with a row for each record and a number for each reference, is the shortest
-- that is read as row number i of those passed in.
pub shortest : (h : Header) (names refs : List ℕ) (rows : List Row) (out_capacity R F i : ℕ) → (write_rows h names refs rows out_capacity).answer.reply ≡ 0
    → length rows * row_width ≤ R → length (all_refs (recs names refs rows)) ≤ F → i < length rows
    → let dump = (write_rows h names refs rows out_capacity).bytes in
    ShortestAt dump (capacity R F) (read_result dump R F) (rec_of names refs (nth rows i)) i
unfolding done
shortest h names refs rows out_capacity R F i z p q l =
    let e = (reply_0_means h names refs rows out_capacity z).3 in
    let n : row_count (read_result (dump_of h names refs rows) R F).rows ≡ length rows = rw e at (round_trip h names refs rows out_capacity R F z p q).rows_count in
    let b : i < row_count (read_result (dump_of h names refs rows) R F).rows = rw n l in
    rw e (found_shortest h names refs rows out_capacity R F z p q i ((row_origins (dump_of h names refs rows) R F).each i b) (row_record_number (dump_of h names refs rows) R F i b))

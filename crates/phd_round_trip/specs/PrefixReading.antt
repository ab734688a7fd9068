-- A reading of any cut of a written dump, record after record, returns the records that lie whole within the cut, and its reply
-- is 0 or 1.
-- Assumes nothing.
use Rattle.std.specs.Prelude.{◌≡◌, refl, ℕ, zero, suc, ◌+◌, ◌*◌, ◌%◌, ◌≤◌, ◌<◌, List, [], ◌∷◌, ◌++◌, cond, length, take, leb}
use Rattle.std.proofs.Common.{sym, append-nil, append_assoc, length-append, lit<, arith, le-leb}
use Rattle.std.proofs.Math.Decide.{dec_le}
use Rattle.std.proofs.lemmas.Bool.{lt-leb}
use Rattle.decode.specs.Layout.{whole, stops, field, reply_of, missing_of}
use Rattle.decode.specs.CutLaws.{run_prefix, prefix_cut}
use Rattle.decode.specs.declared.Stop.TheVariants.{Cut}
use Rattle.encode.specs.Encode.{be}
use Rattle.encode.specs.Reads.{Reads, reads_end, reads_yield, reads_field}
use Rattle.table.specs.Table.{row_width}
use Rattle.phd.specs.Phd.{max_address, make_context, Item, end_item, item, from_tag, entry, phd, capacity, State, Result, go, ended, step, records}
use Rattle.phd.specs.Shapes.{ValidBits}
use Rattle.phd.specs.declared.cache.Cache.{Cache}
use Rattle.phd.specs.declared.Header.{Header}
use Rattle.phd.specs.declared.Span.{Span}
use Rattle.reader.specs.Reader.{next_item, append_item}
use Rattle.reader.specs.Steps.{step_end, step_stop, step_item, records_go, records_halt}
use Rattle.table.specs.Rows.{Rec}
use Rattle.phd_encode.specs.EncodeRecord.{encode_record, cache_after}
use Rattle.phd_round_trip.specs.EntryRoundTrip.{reads_entry}
use Rattle.phd_write.specs.Write.{encode_records}
use Rattle.phd_round_trip.specs.CutRecords.{all_refs, within_cut, stop_in}
use Rattle.phd_round_trip.specs.CutRecordLaws.{AllGood}
use Rattle.phd_round_trip.specs.RecordRoundTrip.{refs_place, decoded_row, length_decoded_row, decode_encode_record}

-- The end tag is read as `end_item`.
pub decode_end_tag : (h : Header) (before : ℕ) (c : Cache) (index p : ℕ) → Reads p (entry h before c index) (be 1 3) end_item
unfolding from_tag
decode_end_tag h before c index p =
    reads_entry h before c index p
    (reads_end p (field 1) _ (be 1 3) 3 end_item (reads_field p 1 3 (lit< tt)) (reads_yield _ end_item))

-- The rows that records are read as, if the first is written at p.
unfoldable pub decoded_rows : Header → ℕ → ℕ → Cache → List Rec → List ℕ
decoded_rows h p before c [] = []
decoded_rows h p before c (r ∷ rs) =
    decoded_row h p before c r ++ decoded_rows h (p + length (encode_record h before c r)) r.row.address (cache_after h before c r) rs

pub length_decoded_rows : (h : Header) (p before : ℕ) (c : Cache) (rs : List Rec) → length (decoded_rows h p before c rs) ≡ row_width * length rs
unfolding decoded_rows
length_decoded_rows h p before c [] = refl
length_decoded_rows h p before c (r ∷ rs) =
    let k = length_decoded_rows h (p + length (encode_record h before c r)) r.row.address (cache_after h before c r) rs in
    let n = length_decoded_row h p before c r in
    simp length-append (omega arith)

-- The result rd of reading a cut at m of a dump of `total` bytes, from the state st on with the records rs still to come: the
-- rows and references of st, and those of the records within the cut.
pub record ReadsCutFrom (m total : ℕ) (h : Header) (st : State) (rs : List Rec) (rd : Result) : Type 0 where
  pub rows : rd.rows ≡ st.rows ++ decoded_rows h st.at st.context.address st.context.cache (within_cut m h st.at st.context.address st.context.cache rs)
  pub refs : rd.refs ≡ st.refs ++ all_refs (within_cut m h st.at st.context.address st.context.cache rs)
  pub reply : rd.reply ≡ cond (leb total m) 0 1
  pub place : rd.place ≡ stop_in m h st.at st.context.address st.context.cache rs
  pub header : rd.header ≡ h

-- A record as it is read in the state st: where its references lie, its row, its size, and the state after it.
abbrev span_read : Header → State → Rec → Span
span_read h st r = refs_place h st.at st.context.address st.context.cache r

abbrev row_read : Header → State → Rec → List ℕ
row_read h st r = decoded_row h st.at st.context.address st.context.cache r

abbrev size_at : Header → State → Rec → ℕ
size_at h st r = length (encode_record h st.context.address st.context.cache r)

abbrev state_after : Header → State → Rec → State
state_after h st r = append_item st (row_read h st r) r.refs (make_context r.row.address (cache_after h st.context.address st.context.cache r)) (st.at + size_at h st r)

-- The first record lies within the cut.
reads_cut_step : (m total : ℕ) (h : Header) (st : State) (r : Rec) (rs : List Rec) (rd : Result) → st.at + size_at h st r ≤ m
    → ReadsCutFrom m total h (state_after h st r) rs rd → ReadsCutFrom m total h st (r ∷ rs) rd
unfolding within_cut stop_in decoded_rows all_refs
reads_cut_step m total h st r rs rd l g = record {
  rows = rw (le-leb _ _ l) (rw append_assoc at g.rows);
  refs = rw (le-leb _ _ l) (rw append_assoc at g.refs);
  reply = g.reply;
  place = rw (le-leb _ _ l) g.place;
  header = g.header;
}

-- The first record does not lie whole within the cut.
reads_cut_beyond : (m total k : ℕ) (h : Header) (st : State) (r : Rec) (rs : List Rec) → m < st.at + size_at h st r → m < total
    → ReadsCutFrom m total h st (r ∷ rs) (ended h st 1 st.at k)
unfolding within_cut stop_in decoded_rows all_refs ended
reads_cut_beyond m total k h st r rs l t = record {
  rows = rw (lt-leb _ _ l) (sym (append-nil st.rows));
  refs = rw (lt-leb _ _ l) (sym (append-nil st.refs));
  reply = rw (lt-leb total m t);
  place = rw (lt-leb _ _ l);
  header = refl;
}

-- No record is left.
reads_cut_end : (m total : ℕ) (h : Header) (st : State) (reply place k : ℕ) → reply ≡ cond (leb total m) 0 1
    → place ≡ stop_in m h st.at st.context.address st.context.cache []
    → ReadsCutFrom m total h st [] (ended h st reply place k)
unfolding within_cut decoded_rows all_refs ended
reads_cut_end m total h st reply place k e l =
    record { rows = sym (append-nil st.rows); refs = sym (append-nil st.refs); reply = e; place = l; header = refl }

-- The conditions on the records that are still to come after the state st, with f steps left.
pub record Remaining (h : Header) (R F f : ℕ) (st : State) (rs : List Rec) : Type 0 where
  pub bits : ValidBits h.bits
  pub good : AllGood h (length st.refs) rs
  pub aligned : st.context.address % 4 ≡ 0
  pub most : st.context.address ≤ max_address h.bits
  pub count : length rs < f
  pub capacity : length st.rows + row_width * length rs ≤ R
  pub ref_capacity : length st.refs + length (all_refs rs) ≤ F

remaining_step : (h : Header) (R F f : ℕ) (st : State) (r : Rec) (rs : List Rec) → Remaining h R F (suc f) st (r ∷ rs) → Remaining h R F f (state_after h st r) rs
unfolding all_refs
remaining_step h R F f st r rs k =
    let a = length-append st.rows (row_read h st r) in
    let b : length (st.refs ++ r.refs) ≡ length st.refs + length r.refs = length-append st.refs r.refs in
    let c = length-append r.refs (all_refs rs) in
    let d = length_decoded_row h st.at st.context.address st.context.cache r in
    let e : length (st.refs ++ r.refs) ≡ length st.refs + r.row.count = rw (b, k.good.0.good.count) in
    record {
      bits = k.bits;
      good = rw e k.good.1;
      aligned = k.good.0.good.aligned;
      most = k.good.0.good.most;
      count = omega arith;
      capacity = omega arith;
      ref_capacity = omega arith;
    }

-- The tables have capacity for the next record, so it is stored.
step_of_remaining : (h : Header) (s : List ℕ) (R F f : ℕ) (st : State) (r : Rec) (rs : List Rec) → Remaining h R F (suc f) st (r ∷ rs)
    → next_item phd h s st ≡ whole (item (row_read h st r) r.refs (span_read h st r) (make_context r.row.address (cache_after h st.context.address st.context.cache r))) (st.at + size_at h st r)
    → step h s R F st ≡ go (state_after h st r)
unfolding all_refs
step_of_remaining h s R F f st r rs k e =
    let c = length-append r.refs (all_refs rs) in
    step_item phd h s (capacity R F) st (row_read h st r) r.refs (span_read h st r) (make_context r.row.address (cache_after h st.context.address st.context.cache r)) (st.at + size_at h st r) e
    (omega (arith, k.capacity, length_decoded_row h st.at st.context.address st.context.cache r)) (omega (arith, k.ref_capacity))

-- A reading whose next record is cut ends at the tag of that record.
records_cut : (h : Header) (s : List ℕ) (R F f : ℕ) (st : State) (k : ℕ) → next_item phd h s st ≡ stops (Cut k)
    → records (suc f) h s R F st ≡ ended h st 1 st.at k
unfolding reply_of missing_of
records_cut h s R F f st k e = records_halt phd f h s (capacity R F) st (ended h st 1 st.at k) (step_stop phd h s (capacity R F) st (Cut k) e)

-- The records rs and the end tag, written after `pre`, are read from a cut at m, with f steps left.
abbrev ReadsRecords : Header → (R F m f : ℕ) → List Rec → Type 0
ReadsRecords h R F m f rs =
    (st : State) (pre : List ℕ) → length pre ≡ st.at → st.at ≤ m → Remaining h R F f st rs
    → ReadsCutFrom m (st.at + length (encode_records h st.context.address st.context.cache rs)) h st rs
    (records f h (take m (pre ++ encode_records h st.context.address st.context.cache rs)) R F st)

reads_records_end : (h : Header) (R F m f : ℕ) → ReadsRecords h R F m (suc f) []
unfolding encode_records be stop_in
reads_records_end h R F m f st pre e l k = elim (dec_le (st.at + 1) m) [ yes q ↦ ends q | no q ↦ cuts (omega arith) ]
  where
    dump : List ℕ
    dump = pre ++ be 1 3

    full : next_item phd h dump st ≡ whole end_item (st.at + 1)
    full = (decode_end_tag h st.context.address st.context.cache (length st.refs) st.at).reads pre [] e

    ends : st.at + 1 ≤ m → ReadsCutFrom m (st.at + 1) h st [] (records (suc f) h (take m dump) R F st)
    ends q =
        let g : next_item phd h (take m dump) st ≡ whole end_item (st.at + 1) = run_prefix (entry h st.context.address st.context.cache (length st.refs)) dump st.at m end_item (st.at + 1) full q in
        rw (records_halt phd f h (take m dump) (capacity R F) st (ended h st 0 (st.at + 1) 0) (step_end phd h (take m dump) (capacity R F) st (st.at + 1) g))
        (reads_cut_end m (st.at + 1) h st 0 (st.at + 1) 0 (rw (le-leb (st.at + 1) m q)) (rw (le-leb (st.at + 1) m q)))

    cuts : m < st.at + 1 → ReadsCutFrom m (st.at + 1) h st [] (records (suc f) h (take m dump) R F st)
    cuts q =
        let g = prefix_cut (entry h st.context.address st.context.cache (length st.refs)) dump st.at m end_item (st.at + 1) full l q in
        rw (records_cut h (take m dump) R F f st g.deficit g.is)
        (reads_cut_end m (st.at + 1) h st 1 st.at g.deficit (rw (lt-leb (st.at + 1) m q)) (rw (lt-leb (st.at + 1) m q)))

reads_records_step : (h : Header) (R F m f : ℕ) (r : Rec) (rs : List Rec) → ReadsRecords h R F m f rs → ReadsRecords h R F m (suc f) (r ∷ rs)
unfolding encode_records
reads_records_step h R F m f r rs ih st pre e l k = rw total (elim (dec_le (st.at + length bs) m) [ yes q ↦ on q | no q ↦ cuts (omega arith) ])
  where
    bs : List ℕ
    bs = encode_record h st.context.address st.context.cache r

    rest : List ℕ
    rest = encode_records h r.row.address (cache_after h st.context.address st.context.cache r) rs

    dump : List ℕ
    dump = pre ++ (bs ++ rest)

    this : Item
    this = item (row_read h st r) r.refs (span_read h st r) (make_context r.row.address (cache_after h st.context.address st.context.cache r))

    total : st.at + length (bs ++ rest) ≡ st.at + length bs + length rest
    total = rw (length-append bs rest) (omega arith)

    full : next_item phd h dump st ≡ whole this (st.at + length bs)
    full = (decode_encode_record h st.context.address st.context.cache (length st.refs) r st.at k.bits k.good.0.good k.aligned k.most).reads pre rest e

    on : st.at + length bs ≤ m → ReadsCutFrom m (st.at + length bs + length rest) h st (r ∷ rs) (records (suc f) h (take m dump) R F st)
    on q =
        let g : next_item phd h (take m dump) st ≡ whole this (st.at + length bs) =
        run_prefix (entry h st.context.address st.context.cache (length st.refs)) dump st.at m this (st.at + length bs) full q in
        let w : step h (take m dump) R F st ≡ go (state_after h st r) = step_of_remaining h (take m dump) R F f st r rs k g in
        let e' : length (pre ++ bs) ≡ st.at + length bs = rw (length-append pre bs, e) in
        rw (records_go phd f h (take m dump) (capacity R F) st (state_after h st r) w)
        (reads_cut_step m (st.at + length bs + length rest) h st r rs _ q
        (rw (append_assoc pre bs rest) at (ih (state_after h st r) (pre ++ bs) e' q (remaining_step h R F f st r rs k))))

    cuts : m < st.at + length bs → ReadsCutFrom m (st.at + length bs + length rest) h st (r ∷ rs) (records (suc f) h (take m dump) R F st)
    cuts q =
        let g = prefix_cut (entry h st.context.address st.context.cache (length st.refs)) dump st.at m this (st.at + length bs) full l q in
        rw (records_cut h (take m dump) R F f st g.deficit g.is)
        (reads_cut_beyond m (st.at + length bs + length rest) g.deficit h st r rs q (omega arith))

-- Records and the end tag, written after `pre`, are read from any cut at their beginning or later, in tables with capacity for
-- all of them.
pub reads_records : (h : Header) (R F m f : ℕ) (rs : List Rec) → ReadsRecords h R F m f rs
reads_records h R F m zero rs st pre e l k = absurd (omega (arith, k.count))
reads_records h R F m (suc f) [] st pre e l k = reads_records_end h R F m f st pre e l k
reads_records h R F m (suc f) (r ∷ rs) st pre e l k = reads_records_step h R F m f r rs (reads_records h R F m f rs) st pre e l k

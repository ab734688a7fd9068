-- Demands 2 and 3 for calls: `write` filled an output, and `read_tables` then fills tables from the first bytes of it. The premises are
-- the contracts of the two calls, `AfterWrite` (phd_write) and `AfterRead` (phd_read). Demand 2: proofs/InMemory.antt.
-- A reader must believe the records `CutRead` and `WholeRead`.
use Rattle.std.specs.Prelude.{◌≡◌, ℕ, ◌*◌, ◌≤◌, ◌<◌, List, cond, take, leb}
use Rattle.std.proofs.Common.{arith}
use Rattle.std.proofs.Math.ListN.{length}
use Rattle.std.proofs.lemmas.List.{take-append-le}
use Rattle.table.specs.Table.{row_width}
use Rattle.table.specs.Rows.{Rec, recs, rows_of, first_recs}
use Rattle.table.specs.Buffer.{overwrite}
use Rattle.table.specs.declared.Answer.{Answer}
use Rattle.phd.specs.Phd.{empty_header}
use Rattle.phd.specs.declared.Header.{Header}
use Rattle.phd_read.specs.ReadContract.{AfterRead}
use Rattle.phd_read.specs.declared.ReadAnswer.{ReadAnswer}
use Rattle.phd_write.specs.Write.{encode_header, write_result}
use Rattle.phd_write.specs.WriteTerms.{AfterWrite}
use Rattle.phd_write.specs.WriteTheorems.{written_dump}
use Rattle.phd_round_trip.specs.CutRecords.{all_refs, cut_recs, stop_at}
use Rattle.phd_round_trip.specs.RoundTripTheorems.{SameHeader, prefix_read_tables}

-- After the first m bytes of an output were read, n of whose bytes were written, the answer b and the tables give the records
-- within this cut. The records rs are those of the rows passed to `write`.
pub record CutRead (h : Header) (names : List ℕ) (rs : List Rec) (n m : ℕ) (out : List ℕ) (b : ReadAnswer) (rows refs : List ℕ) : Type 0 where
  -- The records in the tables are exactly those whose last byte lies within the cut, in order.
  pub records : first_recs b.rows (take m out) refs rows ≡ cut_recs names h rs m
  pub rows_count : b.rows ≡ length (cut_recs names h rs m)
  pub refs_count : b.refs ≡ length (all_refs (cut_recs names h rs m))
  pub refs_all : take b.refs refs ≡ all_refs (cut_recs names h rs m)
  -- The reply is 0 (complete) exactly if all written bytes lie within the cut, else 1 (cut); the place is where the reading
  -- stops.
  pub reply : b.reply ≡ cond (leb n m) 0 1
  pub place : b.place ≡ stop_at names h rs m
  -- The header is the one passed in if it lies whole within the cut; otherwise it is empty.
  pub header : length (encode_header names h) ≤ m → SameHeader h names b.header (take m out)
  pub no_header : m < length (encode_header names h) → b.header ≡ empty_header

-- After all n written bytes were read, the answer b and the tables give all records, and the header passed in.
pub record WholeRead (h : Header) (names : List ℕ) (rs : List Rec) (n : ℕ) (out : List ℕ) (b : ReadAnswer) (rows refs : List ℕ) : Type 0 where
  pub records : first_recs b.rows (take n out) refs rows ≡ rs
  pub rows_count : b.rows ≡ length rs
  pub refs_count : b.refs ≡ length (all_refs rs)
  pub refs_all : take b.refs refs ≡ all_refs rs
  pub reply : b.reply ≡ 0
  pub place : b.place ≡ n
  pub header : SameHeader h names b.header (take n out)

-- A call of `write` with reply 0, and a call of `read_tables` with tables that have a row for each record and a number for each
-- reference.
module _ (h : Header) (names refs rows out : List ℕ) (a : Answer) (out' : List ℕ) (w : AfterWrite h names refs rows out a out') (z : a.reply ≡ 0)
    (rows₀ refs₀ : List ℕ) (p : length (rows_of rows) * row_width ≤ length rows₀) (q : length (all_refs (recs names refs (rows_of rows))) ≤ length refs₀)
    (b : ReadAnswer) (rows' refs' : List ℕ) where
  abbrev rs : List Rec
  rs = recs names refs (rows_of rows)

  abbrev bytes : List ℕ
  bytes = (write_result h names refs rows (length out)).bytes

  write_reply_0 : (write_result h names refs rows (length out)).answer.reply ≡ 0
  write_reply_0 = rw w.is at z

  place_is_length : a.place ≡ length bytes
  place_is_length = rw w.is (written_dump h names refs (rows_of rows) (length out) write_reply_0).place

  first_bytes : (m : ℕ) → m ≤ a.place → take m out' ≡ take m bytes
  unfolding overwrite
  first_bytes m l = rw w.output (take-append-le m bytes _ (omega (arith, place_is_length)))

  -- Demand 3, second part: a reading of the first m of the written bytes gives `CutRead`.
  pub cut_read : (m : ℕ) → m ≤ a.place → AfterRead (take m out') rows₀ refs₀ b rows' refs' → CutRead h names rs a.place m out' b rows' refs'
  cut_read m l r =
      let d = first_bytes m (omega (arith, l)) in
      let s = prefix_read_tables h names refs (rows_of rows) (length out) m rows₀ refs₀ write_reply_0 p q in
      rw (r.is, r.row_table, r.ref_table, d)
      (record {
        records = rw d s.records;
        rows_count = s.rows_count;
        refs_count = s.refs_count;
        refs_all = s.refs_all;
        reply = rw place_is_length s.reply;
        place = s.place;
        header = λ k. rw d (s.header k);
        no_header = s.no_header;
      })

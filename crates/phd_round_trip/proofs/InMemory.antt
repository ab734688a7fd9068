-- Demand 2 for calls: `write` filled an output, and `read_tables` then fills tables from all that it wrote (specs/InMemory.antt).
use Rattle.std.specs.Prelude.{◌≡◌, ℕ, ◌*◌, ◌≤◌, List, take}
use Rattle.std.proofs.Math.Path.{ap}
use Rattle.std.proofs.Common.{◌∙◌, arith, le-leb}
use Rattle.std.proofs.Math.ListN.{length, length-append}
use Rattle.table.specs.Table.{row_width}
use Rattle.table.specs.Rows.{Rec, recs, rows_of}
use Rattle.table.specs.declared.Answer.{Answer}
use Rattle.phd.specs.Phd.{empty_cache}
use Rattle.phd.specs.declared.Header.{Header}
use Rattle.phd_read.specs.ReadContract.{AfterRead}
use Rattle.phd_read.specs.declared.ReadAnswer.{ReadAnswer}
use Rattle.phd_write.specs.Write.{encode_header, encode_records, encode_dump, write_result}
use Rattle.phd_write.specs.WriteTerms.{AfterWrite}
use Rattle.phd_write.specs.WriteTheorems.{written_dump}
use Rattle.phd_round_trip.specs.CutRecords.{all_refs, cut_recs}
use Rattle.phd_round_trip.specs.RoundTripTheorems.{cut_recs_all, stop_at_all}
use Rattle.phd_round_trip.specs.InMemory.{WholeRead, cut_read}

-- A call of `write` with reply 0, and a call of `read_tables` with tables that have a row for each record and a number for each
-- reference.
module _ (h : Header) (names refs rows out : List ℕ) (a : Answer) (out' : List ℕ) (w : AfterWrite h names refs rows out a out') (z : a.reply ≡ 0)
    (rows₀ refs₀ : List ℕ) (p : length (rows_of rows) * row_width ≤ length rows₀) (q : length (all_refs (recs names refs (rows_of rows))) ≤ length refs₀)
    (b : ReadAnswer) (rows' refs' : List ℕ) where
  abbrev rs : List Rec
  rs = recs names refs (rows_of rows)

  abbrev bytes : List ℕ
  bytes = (write_result h names refs rows (length out)).bytes

  write_reply_0 : (write_result h names refs rows (length out)).answer.reply ≡ 0
  write_reply_0 = rw w.is at z

  place_is_length : a.place ≡ length bytes
  place_is_length = rw w.is (written_dump h names refs (rows_of rows) (length out) write_reply_0).place

  dump_is : bytes ≡ encode_dump names h rs
  unfolding encode_dump
  dump_is = (written_dump h names refs (rows_of rows) (length out) write_reply_0).bytes

  -- Demand 2: a reading of all written bytes gives `WholeRead`.
  pub whole_read : AfterRead (take a.place out') rows₀ refs₀ b rows' refs' → WholeRead h names rs a.place out' b rows' refs'
  unfolding encode_dump
  whole_read r =
      let c = cut_read h names refs rows out a out' w z rows₀ refs₀ p q b rows' refs' a.place (omega arith) r in
      let n : a.place ≡ length (encode_dump names h rs) = place_is_length ∙ ap length dump_is in
      let k : cut_recs names h rs a.place ≡ rs = rw n (cut_recs_all h names rs) in
      let t = length-append (encode_header names h) (encode_records h 0 empty_cache rs) in
      record {
        records = c.records ∙ k;
        rows_count = c.rows_count ∙ ap length k;
        refs_count = c.refs_count ∙ ap (λ x. length (all_refs x)) k;
        refs_all = c.refs_all ∙ ap all_refs k;
        reply = rw (le-leb a.place a.place (omega arith)) at c.reply;
        place = c.place ∙ rw n (stop_at_all h names rs);
        header = c.header (omega (arith, n, t));
      }

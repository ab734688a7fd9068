-- Theorems about writing and its size query, in reading order, for any rows; `write_result` and `write_size_result` are these for
-- the whole rows of a table. What holds of reading a written dump is in phd_round_trip.
-- A reader must believe the statements and their records. Assumes nothing.
use Rattle.std.specs.Prelude.{◌≡◌, refl, ◌↔◌, ◌⊎◌, ℕ, ◌≤◌, ◌<◌, true, false, List, [], ◌++◌, length, Some, None}
use Rattle.std.proofs.Common.{ap, ◌∙◌, inl, inr, arith}
use Rattle.table.specs.Rows.{recs}
use Rattle.table.specs.Buffer.{overwrite, overwrite_all}
use Rattle.table.specs.CheckOrder.{WriteResult, done, CheckReplies}
use Rattle.table.specs.SizeQuery.{QueryAgrees}
use Rattle.table.specs.OffsetsIgnored.{EqualExceptOffsets, rows_of_equal}
use Rattle.table.specs.declared.Answer.{Answer}
use Rattle.table.specs.declared.Row.{Row}
use Rattle.phd.specs.Phd.{limit, empty_cache}
use Rattle.phd.specs.declared.Header.{Header}
use Rattle.phd_check.specs.GoodRows.{good_header, first_bad, TablesGood}
use Rattle.phd_write.specs.Write.{encode_header, encode_records, encode_dump, fits_capacity, write_rows, write_rows_size, write_result, write_size_result}
use Rattle.phd_write.specs.WriteTerms.{dump_of, TooLong, EndsWithEndTag}
use Rattle.phd_write.specs.WriteOutcomes.{fits_capacity_true, fits_capacity_false, fits_capacity_bounds, fits_capacity_fails, write_by_checks, reply_0_means, ends_append, encode_records_end, size_query_as_write, size_query_agrees}

-- ---- replies of a write

-- What holds of the result w of writing these tables into an output of `out_capacity` bytes.
pub record WriteReplies (h : Header) (names refs : List ℕ) (rows : List Row) (out_capacity : ℕ) (w : WriteResult) : Type 0 where
  -- 15 exactly if the header is bad.
  pub header : (w.answer.reply ≡ 15) ↔ (good_header h names rows refs ≡ false)
  -- 16 with place i exactly if the header is good and the first bad row is row i.
  pub row : (i : ℕ) → ((w.answer.reply ≡ 16) × (w.answer.place ≡ i))
      ↔ ((good_header h names rows refs ≡ true) × (first_bad h names refs rows ≡ Some i))
  -- 17 exactly if the header is good, no row is bad, and the dump exceeds the capacity or the size limit.
  pub too_small : (w.answer.reply ≡ 17) ↔ ((TablesGood h names refs rows) × (TooLong out_capacity (dump_of h names refs rows)))
  -- 0 exactly if the header is good, no row is bad, and the dump is within the capacity and the size limit.
  pub done : (w.answer.reply ≡ 0)
      ↔ ((TablesGood h names refs rows) × (length (dump_of h names refs rows) ≤ out_capacity) × (length (dump_of h names refs rows) ≤ limit))
  -- There is no other reply.
  pub reply_cases : (w.answer.reply ≡ 0) ⊎ ((w.answer.reply ≡ 15) ⊎ ((w.answer.reply ≡ 16) ⊎ (w.answer.reply ≡ 17)))
  -- 15 and 17 have place 0.
  pub place_15 : w.answer.reply ≡ 15 → w.answer.place ≡ 0
  pub place_17 : w.answer.reply ≡ 17 → w.answer.place ≡ 0
  -- A refusal writes nothing.
  pub no_bytes : (w.answer.reply ≡ 0 → ⊥) → w.bytes ≡ []

-- `WriteReplies` holds for any header, any tables and any capacity.
pub write_replies : (h : Header) (names refs : List ℕ) (rows : List Row) (out_capacity : ℕ) → WriteReplies h names refs rows out_capacity (write_rows h names refs rows out_capacity)
write_replies h names refs rows out_capacity = record {
  header = t.header;
  row = t.row;
  too_small = (λ z. let s = t.too_small.0 z in ((s.0, s.1), fits_capacity_fails out_capacity dump s.3), λ e. t.too_small.1 (e.0.0, e.0.1, refl, fits_capacity_false out_capacity dump e.1));
  done = (λ z. let s = t.all_good.0 z in let l = fits_capacity_bounds out_capacity dump s.3 in ((s.0, s.1), l.0, l.1), λ e. t.all_good.1 (e.0.0, e.0.1, refl, fits_capacity_true out_capacity dump e.1 e.2));
  reply_cases = four t.reply_cases;
  place_15 = t.place_15;
  place_17 = t.place_17;
  no_bytes = t.no_bytes;
}
  where
    dump : List ℕ
    dump = dump_of h names refs rows

    t : CheckReplies (good_header h names rows refs) (first_bad h names refs rows) None (fits_capacity out_capacity (dump_of h names refs rows)) (dump_of h names refs rows) (write_rows h names refs rows out_capacity)
    t = write_by_checks h names refs rows out_capacity

    -- Reply 18 is impossible, since writing does not look for classes.
    four : (let n = (write_rows h names refs rows out_capacity).answer.reply in (n ≡ 0) ⊎ ((n ≡ 15) ⊎ ((n ≡ 16) ⊎ ((n ≡ 17) ⊎ (n ≡ 18)))))
        → (let n = (write_rows h names refs rows out_capacity).answer.reply in (n ≡ 0) ⊎ ((n ≡ 15) ⊎ ((n ≡ 16) ⊎ (n ≡ 17))))
    four (inl e) = inl e
    four (inr (inl e)) = inr (inl e)
    four (inr (inr (inl e))) = inr (inr (inl e))
    four (inr (inr (inr (inl e)))) = inr (inr (inr e))
    four (inr (inr (inr (inr e)))) = let s = (t.no_class (write_rows h names refs rows out_capacity).answer.place).0 (e, refl) in let z : ◌≡◌ {A = ℕ} 0 1 = cc s.2 in absurd (omega arith)

-- ---- size query before a write

-- What holds of the answer of a size query for these tables.
pub record WriteSizeReplies (h : Header) (names refs : List ℕ) (rows : List Row) (query : Answer) : Type 0 where
  -- The answer is that of a write with an output as long as the size limit, so `WriteReplies` applies to it.
  pub as_write : query ≡ (write_rows h names refs rows limit).answer
  -- 0 exactly if the header is good, no row is bad, and the dump is within the size limit; the place is its size in bytes.
  pub done : (query.reply ≡ 0) ↔ ((TablesGood h names refs rows) × (length (dump_of h names refs rows) ≤ limit))
  pub count : query.reply ≡ 0 → query.place ≡ length (dump_of h names refs rows)
  -- 17 exactly if the header is good, no row is bad, and the dump is over the size limit.
  pub over_limit : (query.reply ≡ 17) ↔ ((TablesGood h names refs rows) × (limit < length (dump_of h names refs rows)))

-- `WriteSizeReplies` holds for any header and any tables.
pub write_size_replies : (h : Header) (names refs : List ℕ) (rows : List Row) → WriteSizeReplies h names refs rows (write_rows_size h names refs rows)
unfolding done
write_size_replies h names refs rows = record {
  as_write = e;
  done = rw e (λ z. let s = x.done.0 z in (s.0, s.1), λ s. x.done.1 (s.0, s.1, s.1));
  count = rw e (λ z. rw (reply_0_means h names refs rows limit z).3);
  over_limit = rw e (λ z. let s = x.too_small.0 z in (s.0, either_way s.1), λ s. x.too_small.1 (s.0, inl s.1));
}
  where
    x : WriteReplies h names refs rows limit (write_rows h names refs rows limit)
    x = write_replies h names refs rows limit

    e : write_rows_size h names refs rows ≡ (write_rows h names refs rows limit).answer
    e = size_query_as_write h names refs rows

    either_way : TooLong limit (dump_of h names refs rows) → limit < length (dump_of h names refs rows)
    either_way (inl l) = l
    either_way (inr l) = l

-- For any capacity, a write answers 0 exactly if the size query answers 0 and the output can hold that size; the place is then
-- the same. If the query refuses, also for a dump over the size limit, the write refuses with the same answer (`QueryAgrees` in
-- SizeQuery of table).
pub write_after_size_query : (h : Header) (names refs : List ℕ) (rows : List Row) (out_capacity : ℕ) → QueryAgrees (write_rows_size h names refs rows) out_capacity (write_rows h names refs rows out_capacity)
write_after_size_query h names refs rows out_capacity = size_query_agrees h names refs rows _ out_capacity refl

-- An output exactly as long as the size that the query answers is enough: the dump fills it.
pub exact_capacity : (h : Header) (names refs : List ℕ) (rows : List Row) (out : List ℕ) → (write_rows_size h names refs rows).reply ≡ 0 → length out ≡ (write_rows_size h names refs rows).place
    → overwrite out (write_rows h names refs rows (length out)).bytes ≡ dump_of h names refs rows
unfolding done
exact_capacity h names refs rows out z l =
    let d = (write_after_size_query h names refs rows (length out)).done.1 (z, omega arith) in
    rw (reply_0_means h names refs rows (length out) d).3 (overwrite_all out (dump_of h names refs rows) (l ∙ (write_size_replies h names refs rows).count z))

-- ---- offsets of the rows

-- The offsets may be any numbers: tables that differ only in them, or after their last whole row, give the same results.
pub write_ignores_offsets : (h : Header) (names refs : List ℕ) {table table' : List ℕ} (out_capacity : ℕ) → EqualExceptOffsets table table'
    → (write_result h names refs table out_capacity ≡ write_result h names refs table' out_capacity) × (write_size_result h names refs table ≡ write_size_result h names refs table')
write_ignores_offsets h names refs out_capacity a = (ap (λ rows. write_rows h names refs rows out_capacity) (rows_of_equal a), ap (write_rows_size h names refs) (rows_of_equal a))

-- ---- bytes of a write with reply 0

-- The bytes written are the header, the rows in order, each as `encode_record` encodes it, and the end tag.
pub record WrittenDump (h : Header) (names refs : List ℕ) (rows : List Row) (out_capacity : ℕ) (w : WriteResult) : Type 0 where
  pub bytes : w.bytes ≡ encode_header names h ++ encode_records h 0 empty_cache (recs names refs rows)
  -- The last byte is the end tag.
  pub end : EndsWithEndTag w.bytes
  -- The place is their number, which is within the capacity and the size limit.
  pub place : w.answer.place ≡ length w.bytes
  pub within_capacity : length w.bytes ≤ out_capacity
  pub within_limit : length w.bytes ≤ limit

-- A write with reply 0 gives a `WrittenDump`.
pub written_dump : (h : Header) (names refs : List ℕ) (rows : List Row) (out_capacity : ℕ) → (write_rows h names refs rows out_capacity).answer.reply ≡ 0
    → WrittenDump h names refs rows out_capacity (write_rows h names refs rows out_capacity)
unfolding encode_dump done
written_dump h names refs rows out_capacity z =
    let s = reply_0_means h names refs rows out_capacity z in
    rw s.3
    (record {
      bytes = refl;
      end = ends_append (encode_header names h) _ (encode_records_end h 0 empty_cache (recs names refs rows));
      place = refl;
      within_capacity = s.1;
      within_limit = s.2;
    })

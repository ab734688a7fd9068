-- The theorems about reading a written dump: the round trip (demand 2), and the records that a cut contains (demand 3, second
-- part). They are stated for rows; writing a table is writing its rows (`write_result`).
-- A reader must believe the statements and their records. Assumes nothing.
use Rattle.std.specs.Prelude.{◌≡◌, refl, ℕ, ◌+◌, ◌-◌, ◌*◌, ◌≤◌, ◌<◌, true, cond, List, [], ◌++◌, length, take, drop, leb}
use Rattle.std.proofs.Common.{sym, ap, subst, ◌∙◌, append-nil, length-append, arith, le-leb}
use Rattle.std.proofs.Math.Seq.{take-length, take-append_seam, take-append-add}
use Rattle.table.specs.Table.{row_width, row_count}
use Rattle.table.specs.Rows.{Rec, recs, rows_of, first_recs, first_recs_all, length_rows}
use Rattle.table.specs.Buffer.{overwrite}
use Rattle.table.specs.CheckOrder.{done}
use Rattle.table.specs.declared.Row.{Row}
use Rattle.phd.specs.Phd.{empty_header, empty_cache, Result, read_result}
use Rattle.phd.specs.declared.Header.{Header}
use Rattle.phd_check.specs.GoodRows.{good_vm, vm_text}
use Rattle.phd_read.specs.ReadContract.{read_answer}
use Rattle.phd_write.specs.Write.{encode_header, encode_records, encode_dump, write_rows, write_result}
use Rattle.phd_write.specs.WriteTerms.{dump_of}
use Rattle.phd_write.specs.WriteOutcomes.{reply_0_means}
use Rattle.phd_round_trip.specs.CutRecords.{all_refs, cut_recs, stop_at}
use Rattle.phd_round_trip.specs.CutRecordLaws.{within_cut_all, stop_in_all}
use Rattle.phd_round_trip.specs.HeaderRoundTrip.{written_header, written_vm_present, written_vm_text}
use Rattle.phd_round_trip.specs.DumpRoundTrip.{ReadsCut, reads_cut, cut_recs_count, cut_recs_decoded}
use Rattle.phd_round_trip.specs.WrittenIsGood.{written_is_good, length_recs, rows_capacity, refs_in_bounds}

-- ---- the round trip (demand 2)

-- The header f, read from `bytes`, agrees with the header h that was passed in with the name bytes: in W, in both flags, in
-- whether there is a VM string, and in its bytes.
pub record SameHeader (h : Header) (names : List ℕ) (f : Header) (bytes : List ℕ) : Type 0 where
  pub bits : f.bits ≡ h.bits
  pub hashed : f.hashed ≡ h.hashed
  pub openj9 : f.openj9 ≡ h.openj9
  pub present : f.vm.present ≡ h.vm.present
  pub text : h.vm.present ≡ true → vm_text bytes f.vm ≡ vm_text names h.vm

-- The result rd of reading the written bytes gives back the header and the records that were passed in.
pub record RoundTrip (h : Header) (names refs : List ℕ) (rows : List Row) (bytes : List ℕ) (rd : Result) : Type 0 where
  -- The dump is complete and ends where the bytes end.
  pub reply : rd.reply ≡ 0
  pub place : rd.place ≡ length bytes
  -- The records are those of the rows: there is a row for each, and the references are theirs, in order.
  pub records : recs bytes rd.refs (rows_of rd.rows) ≡ recs names refs rows
  pub rows_count : row_count rd.rows ≡ length rows
  pub refs_all : rd.refs ≡ all_refs (recs names refs rows)
  -- The header is the one passed in.
  pub header : SameHeader h names rd.header bytes

same_header : (h : Header) (names rest : List ℕ) → good_vm names h.vm ≡ true → SameHeader h names (written_header h) (encode_header names h ++ rest)
same_header h names rest g = record { bits = refl; hashed = refl; openj9 = refl; present = written_vm_present h.vm; text = written_vm_text names h rest g }

-- In every cut that contains the whole header, the header read is the one passed in.
cut_header : (h : Header) (names : List ℕ) (rs : List Rec) (m : ℕ) → good_vm names h.vm ≡ true → length (encode_header names h) ≤ m
    → SameHeader h names (written_header h) (take m (encode_dump names h rs))
unfolding encode_dump
cut_header h names rs m g l =
    let hd : List ℕ = encode_header names h in
    let rest : List ℕ = encode_records h 0 empty_cache rs in
    let e : length hd + (m - length hd) ≡ m = omega arith in
    subst (λ (x : ℕ). SameHeader h names (written_header h) (take x (hd ++ rest))) e
    (rw (take-append-add hd rest (m - length hd)) (same_header h names (take (m - length hd) rest) g))

-- All records of a dump lie within a cut at its end.
pub cut_recs_all : (h : Header) (names : List ℕ) (rs : List Rec) → cut_recs names h rs (length (encode_dump names h rs)) ≡ rs
unfolding encode_dump
cut_recs_all h names rs =
    let t = length-append (encode_header names h) (encode_records h 0 empty_cache rs) in
    within_cut_all (length (encode_dump names h rs)) h (length (encode_header names h)) 0 empty_cache rs (omega arith)

-- A reading of a whole dump stops after the end tag.
pub stop_at_all : (h : Header) (names : List ℕ) (rs : List Rec) → stop_at names h rs (length (encode_dump names h rs)) ≡ length (encode_dump names h rs)
unfolding encode_dump
stop_at_all h names rs =
    let t = length-append (encode_header names h) (encode_records h 0 empty_cache rs) in
    rw (le-leb (length (encode_header names h)) (length (encode_dump names h rs)) (omega arith))
    (stop_in_all (length (encode_dump names h rs)) h (length (encode_header names h)) 0 empty_cache rs (omega arith) ∙ sym t)

-- A written dump is read back as the records passed in, under the same header, if the tables have a row for each record and a
-- number for each reference.
pub round_trip : (h : Header) (names refs : List ℕ) (rows : List Row) (out_capacity R F : ℕ) → (write_rows h names refs rows out_capacity).answer.reply ≡ 0
    → length rows * row_width ≤ R → length (all_refs (recs names refs rows)) ≤ F
    → RoundTrip h names refs rows (write_rows h names refs rows out_capacity).bytes (read_result (write_rows h names refs rows out_capacity).bytes R F)
unfolding done encode_dump recs
round_trip h names refs rows out_capacity R F z p q =
    let g = written_is_good h names refs rows out_capacity z in
    let r = rows_capacity names refs rows R p in
    let rs : List Rec = recs names refs rows in
    let s : List ℕ = dump_of h names refs rows in
    let c : ReadsCut names h rs (length s) (read_result s R F) = rw take-length at (reads_cut names h rs (length s) R F g r q) in
    let k = rw take-length at (cut_recs_decoded names h rs (length s) R F g r q [] []) in
    let n = rw take-length at (cut_recs_count names h rs (length s) R F g r q) in
    let t = length-append (encode_header names h) (encode_records h 0 empty_cache rs) in
    rw (reply_0_means h names refs rows out_capacity z).3
    (record {
      reply = rw (le-leb (length s) (length s) (omega arith)) at c.reply;
      place = c.place ∙ stop_at_all h names rs;
      records = sym (first_recs_all s (read_result s R F).refs (read_result s R F).rows) ∙ (rw (append-nil (read_result s R F).refs, append-nil (read_result s R F).rows) at k ∙ cut_recs_all h names rs);
      rows_count = n ∙ ap length (cut_recs_all h names rs) ∙ length_recs names refs rows;
      refs_all = c.refs ∙ ap all_refs (cut_recs_all h names rs);
      header = rw (c.header (omega arith)) (same_header h names (encode_records h 0 empty_cache rs) g.vm);
    })

-- Tables as long as those passed to the writer have enough capacity to read the dump back.
pub input_capacity_enough : (h : Header) (names refs table : List ℕ) (out_capacity : ℕ) → (write_result h names refs table out_capacity).answer.reply ≡ 0
    → (length (rows_of table) * row_width ≤ length table) × (length (all_refs (recs names refs (rows_of table))) ≤ length refs)
unfolding row_count
input_capacity_enough h names refs table out_capacity z =
    let l = length_rows table in
    (omega arith, omega (arith, refs_in_bounds h names refs (rows_of table) 0 0 (reply_0_means h names refs (rows_of table) out_capacity z).0.1 (omega arith)))

-- ---- cuts of a written dump (demand 3, second part)

-- The result rd of reading the first m of the written bytes gives the records within this cut.
pub record PrefixRead (h : Header) (names refs : List ℕ) (rows : List Row) (bytes : List ℕ) (m : ℕ) (rd : Result) : Type 0 where
  -- The records read are exactly the written ones whose last byte lies within the cut, in order.
  pub records : recs (take m bytes) rd.refs (rows_of rd.rows) ≡ cut_recs names h (recs names refs rows) m
  -- There is a row for each, and the references are theirs, in order.
  pub rows_count : row_count rd.rows ≡ length (cut_recs names h (recs names refs rows) m)
  pub refs_all : rd.refs ≡ all_refs (cut_recs names h (recs names refs rows) m)
  -- The reply is 1 (cut) exactly when the end tag, which is the last byte, lies outside the cut; otherwise it is 0 (complete).
  pub reply : rd.reply ≡ cond (leb (length bytes) m) 0 1
  -- The place is after the end tag, or else the tag of the first record that is not whole, or 0 in the header.
  pub place : rd.place ≡ stop_at names h (recs names refs rows) m
  -- The header is the one passed in if it lies whole within the cut; otherwise it is empty.
  pub header : length (encode_header names h) ≤ m → SameHeader h names rd.header (take m bytes)
  pub no_header : m < length (encode_header names h) → rd.header ≡ empty_header

-- A reading of any cut of a written dump gives `PrefixRead`, if the tables have a row for each record and a number for each
-- reference.
pub prefix_read : (h : Header) (names refs : List ℕ) (rows : List Row) (out_capacity m R F : ℕ) → (write_rows h names refs rows out_capacity).answer.reply ≡ 0
    → length rows * row_width ≤ R → length (all_refs (recs names refs rows)) ≤ F
    → PrefixRead h names refs rows (write_rows h names refs rows out_capacity).bytes m (read_result (take m (write_rows h names refs rows out_capacity).bytes) R F)
unfolding done recs
prefix_read h names refs rows out_capacity m R F z p q =
    let g = written_is_good h names refs rows out_capacity z in
    let r = rows_capacity names refs rows R p in
    let rs : List Rec = recs names refs rows in
    let rd : Result = read_result (take m (dump_of h names refs rows)) R F in
    rw (reply_0_means h names refs rows out_capacity z).3
    (record {
      records = sym (first_recs_all _ rd.refs rd.rows) ∙ rw (append-nil rd.refs, append-nil rd.rows) at (cut_recs_decoded names h rs m R F g r q [] []);
      rows_count = cut_recs_count names h rs m R F g r q;
      refs_all = (reads_cut names h rs m R F g r q).refs;
      reply = (reads_cut names h rs m R F g r q).reply;
      place = (reads_cut names h rs m R F g r q).place;
      header = λ l. rw ((reads_cut names h rs m R F g r q).header l) (cut_header h names rs m g.vm l);
      no_header = (reads_cut names h rs m R F g r q).no_header;
    })

-- `PrefixRead` for a caller who passes the tables rows' and refs': the records are in the first rows of the tables as they are
-- afterwards, as many as the answer counts. If m is the length of the bytes, these are all records.
pub record PrefixReadTables (h : Header) (names refs : List ℕ) (rows : List Row) (bytes : List ℕ) (m : ℕ) (rd : Result) (rows' refs' : List ℕ) : Type 0 where
  pub records : first_recs (read_answer rd).rows (take m bytes) (overwrite refs' rd.refs) (overwrite rows' rd.rows) ≡ cut_recs names h (recs names refs rows) m
  pub rows_count : (read_answer rd).rows ≡ length (cut_recs names h (recs names refs rows) m)
  pub refs_count : (read_answer rd).refs ≡ length (all_refs (cut_recs names h (recs names refs rows) m))
  pub reply : (read_answer rd).reply ≡ cond (leb (length bytes) m) 0 1
  pub place : (read_answer rd).place ≡ stop_at names h (recs names refs rows) m
  pub refs_all : take (read_answer rd).refs (overwrite refs' rd.refs) ≡ all_refs (cut_recs names h (recs names refs rows) m)
  pub header : length (encode_header names h) ≤ m → SameHeader h names (read_answer rd).header (take m bytes)
  pub no_header : m < length (encode_header names h) → (read_answer rd).header ≡ empty_header

-- A reading of any cut of a written dump into tables with enough capacity gives `PrefixReadTables`.
pub prefix_read_tables : (h : Header) (names refs : List ℕ) (rows : List Row) (out_capacity m : ℕ) (rows' refs' : List ℕ) → (write_rows h names refs rows out_capacity).answer.reply ≡ 0
    → length rows * row_width ≤ length rows' → length (all_refs (recs names refs rows)) ≤ length refs'
    → PrefixReadTables h names refs rows (write_rows h names refs rows out_capacity).bytes m
    (read_result (take m (write_rows h names refs rows out_capacity).bytes) (length rows') (length refs')) rows' refs'
unfolding done read_answer overwrite row_count
prefix_read_tables h names refs rows out_capacity m rows' refs' z p q =
    let g = written_is_good h names refs rows out_capacity z in
    let r = rows_capacity names refs rows (length rows') p in
    let rs : List Rec = recs names refs rows in
    let rd : Result = read_result (take m (dump_of h names refs rows)) (length rows') (length refs') in
    rw (reply_0_means h names refs rows out_capacity z).3
    (record {
      records = cut_recs_decoded names h rs m _ _ g r q (drop (length rd.rows) rows') (drop (length rd.refs) refs');
      rows_count = cut_recs_count names h rs m _ _ g r q;
      refs_count = ap length (reads_cut names h rs m _ _ g r q).refs;
      reply = (reads_cut names h rs m _ _ g r q).reply;
      place = (reads_cut names h rs m _ _ g r q).place;
      refs_all = take-append_seam rd.refs _ ∙ (reads_cut names h rs m _ _ g r q).refs;
      header = λ l. rw ((reads_cut names h rs m _ _ g r q).header l) (cut_header h names rs m g.vm l);
      no_header = (reads_cut names h rs m _ _ g r q).no_header;
    })

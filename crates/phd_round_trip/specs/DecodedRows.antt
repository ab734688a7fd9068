-- The rows and references read from a written dump, or from a cut of it, give the records that were written: names are compared
-- as bytes, references as lists.
-- Assumes nothing.
use Rattle.std.specs.Prelude.{◌≡◌, refl, ℕ, suc, ◌+◌, ◌-◌, ◌%◌, ◌≤◌, ◌<◌, List, [], ◌∷◌, ◌++◌, length, take, drop}
use Rattle.std.proofs.Common.{sym, append_assoc, length-append, take_at, drop_at, arith, le-leb}
use Rattle.std.proofs.Math.Seq.{take-append-add}
use Rattle.std.proofs.Math.Decide.{dec_le}
use Rattle.std.proofs.lemmas.Bool.{lt-leb}
use Rattle.table.specs.Table.{row_width}
use Rattle.phd.specs.Phd.{max_address}
use Rattle.phd.specs.Shapes.{ValidBits}
use Rattle.phd.specs.declared.cache.Cache.{Cache}
use Rattle.phd.specs.declared.Header.{Header}
use Rattle.table.specs.Rows.{Rec, row_at, refs_of, name_of, without_place, rec_of, recs, numbers, rows_of_cons, first_recs, row_at_numbers}
use Rattle.phd_encode.specs.EncodeRecord.{encode_record, cache_after}
use Rattle.phd_write.specs.Write.{encode_records}
use Rattle.phd_round_trip.specs.CutRecords.{all_refs, within_cut}
use Rattle.phd_round_trip.specs.CutRecordLaws.{AllGood}
use Rattle.phd_round_trip.specs.PrefixReading.{decoded_rows}
use Rattle.phd_round_trip.specs.RecordRoundTrip.{name_place, decoded_row, length_decoded_row, decoded_name}

-- The row made of a record's numbers gives that record again, if the references and the name lie at the places that the row
-- gives.
rec_of_numbers : (names refs rows : List ℕ) (place offset : ℕ) (r : Rec) → r.row.place ≡ 0 → take r.row.count (drop r.row.first refs) ≡ r.refs
    → take r.row.namelen (drop place names) ≡ r.name → rec_of names refs (row_at (numbers place offset r ++ rows) 0) ≡ r
unfolding rec_of row_at numbers without_place refs_of name_of
rec_of_numbers names refs rows place offset r z p q = λ j. record { row = row_at_numbers place offset r rows z j; refs = p j; name = q j }

-- The row that a record is read as gives that record again, under the same conditions.
rec_of_decoded_row : (h : Header) (p before : ℕ) (c : Cache) (names refs rows : List ℕ) (r : Rec) → r.row.place ≡ 0
    → take r.row.count (drop r.row.first refs) ≡ r.refs → take r.row.namelen (drop (name_place h p before c r) names) ≡ r.name
    → rec_of names refs (row_at (decoded_row h p before c r ++ rows) 0) ≡ r
unfolding decoded_row
rec_of_decoded_row h p before c names refs rows r z = rec_of_numbers names refs rows (name_place h p before c r) _ r z

-- The records of one row and n rows after it.
recs_cons : (n : ℕ) (names refs row table : List ℕ) (r : Rec) (rs : List Rec) → length row ≡ row_width → rec_of names refs (row_at (row ++ table) 0) ≡ r
    → first_recs n names refs table ≡ rs → first_recs (suc n) names refs (row ++ table) ≡ r ∷ rs
unfolding recs
recs_cons n names refs row table r rs l p q = rw (rows_of_cons row table l, p, q)

-- A prefix that contains xs is xs and a prefix of the rest.
take_past : (xs ys : List ℕ) (j : ℕ) → length xs ≤ j → take j (xs ++ ys) ≡ xs ++ take (j - length xs) ys
take_past xs ys j l = let e : length xs + (j - length xs) ≡ j = omega arith in rw e at (take-append-add xs ys (j - length xs))

-- ---- the rows of a written dump

-- The conditions on records that are written after one at the address `before`, with their references after `refs`.
pub record Encodable (h : Header) (before : ℕ) (refs : List ℕ) (rs : List Rec) : Type 0 where
  pub bits : ValidBits h.bits
  pub good : AllGood h (length refs) rs
  pub aligned : before % 4 ≡ 0
  pub most : before ≤ max_address h.bits

encodable_step : (h : Header) (before : ℕ) (refs : List ℕ) (r : Rec) (rs : List Rec) → Encodable h before refs (r ∷ rs) → Encodable h r.row.address (refs ++ r.refs) rs
encodable_step h before refs r rs g =
    let e : length (refs ++ r.refs) ≡ length refs + r.row.count = rw (length-append refs r.refs, g.good.0.good.count) in
    record { bits = g.bits; good = rw e g.good.1; aligned = g.good.0.good.aligned; most = g.good.0.good.most }

-- If j bytes of the records written from offset p on are present, the rows of the whole records among them give those records,
-- whatever follows their rows and references in the tables.
abbrev Decodes : Header → ℕ → (more_rows more_refs : List ℕ) → List Rec → Type 0
Decodes h j more_rows more_refs rs =
    (before : ℕ) (c : Cache) (p : ℕ) (pre refs : List ℕ) → Encodable h before refs rs → length pre ≡ p
    → let decoded = within_cut (p + j) h p before c rs in
    first_recs (length decoded) (pre ++ take j (encode_records h before c rs)) (refs ++ (all_refs decoded ++ more_refs)) (decoded_rows h p before c decoded ++ more_rows) ≡ decoded

-- `Decodes` for a first record that is whole.
decodes_step : (h : Header) (r : Rec) (rs : List Rec) (j : ℕ) (more_rows more_refs : List ℕ) → Decodes h j more_rows more_refs rs
    → (before : ℕ) (c : Cache) (p : ℕ) (pre refs : List ℕ) → Encodable h before refs (r ∷ rs) → length pre ≡ p
    → let bs = encode_record h before c r in
    let decoded = r ∷ within_cut (p + length bs + j) h (p + length bs) r.row.address (cache_after h before c r) rs in
    first_recs (length decoded) (pre ++ (bs ++ take j (encode_records h r.row.address (cache_after h before c r) rs))) (refs ++ (all_refs decoded ++ more_refs))
    (decoded_rows h p before c decoded ++ more_rows) ≡ decoded
unfolding decoded_rows all_refs
decodes_step h r rs j more_rows more_refs ih before c p pre refs g e =
    let bs : List ℕ = encode_record h before c r in
    let c' : Cache = cache_after h before c r in
    let s : List ℕ = pre ++ (bs ++ take j (encode_records h r.row.address c' rs)) in
    let decoded : List Rec = within_cut (p + length bs + j) h (p + length bs) r.row.address c' rs in
    let rows : List ℕ = decoded_rows h (p + length bs) r.row.address c' decoded in
    let ref_table : List ℕ = refs ++ (r.refs ++ (all_refs decoded ++ more_refs)) in
    let good = g.good.0.good in
    let there : take r.row.count (drop r.row.first ref_table) ≡ r.refs =
    rw (drop_at refs (r.refs ++ (all_refs decoded ++ more_refs)) r.row.first (sym good.first), take_at r.refs (all_refs decoded ++ more_refs) r.row.count good.count) in
    let name = decoded_name h before c (length refs) r p g.bits good g.aligned g.most pre (take j (encode_records h r.row.address c' rs)) e in
    let e' : length (pre ++ bs) ≡ p + length bs = rw (length-append pre bs, e) in
    let others : first_recs (length decoded) s ref_table (rows ++ more_rows) ≡ decoded =
    rw (append_assoc pre bs (take j (encode_records h r.row.address c' rs)), append_assoc refs r.refs (all_refs decoded ++ more_refs)) at
    (ih r.row.address c' (p + length bs) (pre ++ bs) (refs ++ r.refs) (encodable_step h before refs r rs g) e') in
    let this = rec_of_decoded_row h p before c s ref_table (rows ++ more_rows) r g.good.0.place_zero there name in
    rw (append_assoc r.refs (all_refs decoded) more_refs, append_assoc (decoded_row h p before c r) rows more_rows)
    (recs_cons (length decoded) s ref_table (decoded_row h p before c r) (rows ++ more_rows) r decoded (length_decoded_row h p before c r) this others)

-- The records within a cut at m, of a first record that is whole.
within_cut_whole : (m : ℕ) (h : Header) (p before : ℕ) (c : Cache) (r : Rec) (rs : List Rec) → let e = p + length (encode_record h before c r) in
    e ≤ m → within_cut m h p before c (r ∷ rs) ≡ r ∷ within_cut m h e r.row.address (cache_after h before c r) rs
unfolding within_cut
within_cut_whole m h p before c r rs l = rw (le-leb (p + length (encode_record h before c r)) m l)

-- And of one that is cut: none.
within_cut_cut : (m : ℕ) (h : Header) (p before : ℕ) (c : Cache) (r : Rec) (rs : List Rec) → m < p + length (encode_record h before c r)
    → within_cut m h p before c (r ∷ rs) ≡ []
unfolding within_cut
within_cut_cut m h p before c r rs l = rw (lt-leb (p + length (encode_record h before c r)) m l)

-- `Decodes` for a first record that may be cut.
decodes_cons : (h : Header) (r : Rec) (rs : List Rec) (j : ℕ) (more_rows more_refs : List ℕ) → ((i : ℕ) → Decodes h i more_rows more_refs rs)
    → Decodes h j more_rows more_refs (r ∷ rs)
unfolding recs encode_records
decodes_cons h r rs j more_rows more_refs ih before c p pre refs g e =
    let n : ℕ = length (encode_record h before c r) in
    elim (dec_le n j) [
      | yes q ↦
          let a : p + n ≤ p + j = omega arith in
          let b : p + j ≡ p + n + (j - n) = omega arith in
          rw (within_cut_whole (p + j) h p before c r rs a, b, take_past (encode_record h before c r) (encode_records h r.row.address (cache_after h before c r) rs) j q)
          (decodes_step h r rs (j - n) more_rows more_refs (ih (j - n)) before c p pre refs g e)
      | no q ↦
          let a : p + j < p + n = omega arith in
          rw (within_cut_cut (p + j) h p before c r rs a)
    ]

decodes : (h : Header) (more_rows more_refs : List ℕ) (rs : List Rec) (j : ℕ) → Decodes h j more_rows more_refs rs
unfolding within_cut recs
decodes h more_rows more_refs [] j before c p pre refs g e = refl
decodes h more_rows more_refs (r ∷ rs) j before c p pre refs g e =
    decodes_cons h r rs j more_rows more_refs (decodes h more_rows more_refs rs) before c p pre refs g e

-- The rows and references of the records within a cut at m, written after `pre`, give those records.
pub decoded_cut_recs : (h : Header) (m before : ℕ) (c : Cache) (pre more_rows more_refs : List ℕ) (rs : List Rec) → Encodable h before [] rs → length pre ≤ m
    → let decoded = within_cut m h (length pre) before c rs in
    first_recs (length decoded) (take m (pre ++ encode_records h before c rs)) (all_refs decoded ++ more_refs) (decoded_rows h (length pre) before c decoded ++ more_rows) ≡ decoded
decoded_cut_recs h m before c pre more_rows more_refs rs g l =
    let e : length pre + (m - length pre) ≡ m = omega arith in
    rw (take_past pre (encode_records h before c rs) m l)
    (rw e at (decodes h more_rows more_refs rs (m - length pre) before c (length pre) pre [] g refl))

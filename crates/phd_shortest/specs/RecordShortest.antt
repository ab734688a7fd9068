-- The bytes that the writer makes of a good record are read as that record, and no shorter run of bytes is.
-- Assumes nothing.
use Rattle.std.specs.Prelude.{◌≡◌, ℕ, ◌+◌, ◌%◌, ◌≤◌, List, [], ◌++◌, length, take, drop}
use Rattle.std.proofs.Math.Path.{subst}
use Rattle.std.proofs.Common.{arith}
use Rattle.table.specs.Rows.{Rec, row_at, name_of, numbers, row_at_numbers}
use Rattle.phd.specs.Phd.{max_address, RecordContext}
use Rattle.phd.specs.Shapes.{ValidBits}
use Rattle.phd.specs.declared.Header.{Header}
use Rattle.phd_check.specs.WellFormed.{GoodRec}
use Rattle.phd_encode.specs.EncodeRecord.{plan_record, encode_record}
use Rattle.phd_encode.specs.EncodedLengths.{length_encode_planned}
use Rattle.phd_read.specs.RecordLayout.{HasLayout, entry_has_layout}
use Rattle.phd_round_trip.specs.RecordRoundTrip.{name_place, decoded_row, decoded_name}
use Rattle.phd_shortest.specs.ReadAs.{read_rec, ReadAs}
use Rattle.phd_shortest.specs.MinimalPlan.{plan_size_least}

-- The numbers of a record's row give that record again, if its name lies at the place in them.
read_rec_numbers : (s : List ℕ) (place offset : ℕ) (r : Rec) → r.row.place ≡ 0 → take r.row.namelen (drop place s) ≡ r.name
    → read_rec s (numbers place offset r) r.refs ≡ r
unfolding read_rec row_at numbers name_of
read_rec_numbers s place offset r z q = λ j. record { row = row_at_numbers place offset r [] z j; refs = r.refs; name = q j }

-- A good record r in the context `before`: the previous address and the cache.
module _ (h : Header) (before : RecordContext) (index : ℕ) (r : Rec) (w : ValidBits h.bits) (g : GoodRec h index r) (z : r.row.place ≡ 0)
    (bf : before.address % 4 ≡ 0) (bl : before.address ≤ max_address h.bits)
  where
    abbrev bs : List ℕ
    bs = encode_record h before.address before.cache r

    -- The row that the record is read as gives the record again, wherever it is written.
    pub read_rec_encoded : (pre post : List ℕ) (p : ℕ) → length pre ≡ p
        → read_rec (pre ++ (bs ++ post)) (decoded_row h p before.address before.cache r) r.refs ≡ r
    unfolding decoded_row
    read_rec_encoded pre post p e =
        read_rec_numbers _ (name_place h p before.address before.cache r) p r z
        (decoded_name h before.address before.cache index r p w g bf bl pre post e)

    -- No shorter run of bytes is read as the record.
    pub encoded_shortest : (s : List ℕ) (at end : ℕ) → ReadAs h before r s at end → at + length bs ≤ end
    unfolding encode_record read_rec
    encoded_shortest s at end x =
        let f = entry_has_layout h before.address before.cache x.index s at x.row x.refs x.span x.after end x.reads in
        let y : HasLayout h before.address before.cache r.row r.refs f.0 =
        subst (λ (q : Rec). HasLayout h before.address before.cache q.row q.refs f.0) x.same f.2 in
        let l = plan_size_least h before.cache before.address index r w g bf bl f.0 y in
        let n = length_encode_planned before.address (plan_record h before.address before.cache r) r.row r.refs r.name g.count g.namelen in
        omega (arith, f.1, l, n)

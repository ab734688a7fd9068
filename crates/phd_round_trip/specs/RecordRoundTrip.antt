-- A good record that is written at any offset of a dump is read back there, whatever lies before and after it, and its name lies
-- at the place in the row that is read.
-- Assumes nothing.
use Rattle.std.specs.Prelude.{◌≡◌, refl, ℕ, ◌%◌, ◌≤◌, List, ◌++◌, length, take, drop}
use Rattle.encode.specs.Reads.{Reads}
use Rattle.table.specs.Table.{row_width}
use Rattle.phd.specs.Phd.{max_address, item, make_context, entry}
use Rattle.phd.specs.Shapes.{ValidBits}
use Rattle.phd.specs.declared.cache.Cache.{Cache}
use Rattle.phd.specs.declared.Header.{Header}
use Rattle.phd.specs.declared.Span.{Span}
use Rattle.table.specs.Rows.{Rec, numbers}
use Rattle.phd_check.specs.WellFormed.{GoodRec}
use Rattle.phd_plan.specs.FormChoice.{make_plan}
use Rattle.phd_encode.specs.EncodeRecord.{plan_record, encode_record, cache_after}
use Rattle.phd_round_trip.specs.EntryRoundTrip.{name_at, span_at, reads_planned, name_at_place}
use Rattle.phd_round_trip.specs.ChosenForm.{chosen_form_decodable}

-- The place of the name of a record that is written at p, after one at the address `before`, with the cache c.
unfoldable pub name_place : Header → ℕ → ℕ → Cache → Rec → ℕ
name_place h p before c r = name_at p (plan_record h before c r) r.row

-- Where the references of that record lie.
unfoldable pub refs_place : Header → ℕ → ℕ → Cache → Rec → Span
refs_place h p before c r = span_at p (plan_record h before c r) r.row

-- The row that the record is read as.
unfoldable pub decoded_row : Header → ℕ → ℕ → Cache → Rec → List ℕ
decoded_row h p before c r = numbers (name_place h p before c r) p r

pub length_decoded_row : (h : Header) (p before : ℕ) (c : Cache) (r : Rec) → length (decoded_row h p before c r) ≡ row_width
unfolding decoded_row numbers
length_decoded_row h p before c r = refl

-- A good record r that is written at p, after one at the address `before`, with the cache c.
module _ (h : Header) (before : ℕ) (c : Cache) (index : ℕ) (r : Rec) (p : ℕ) (w : ValidBits h.bits) (g : GoodRec h index r)
    (bf : before % 4 ≡ 0) (bl : before ≤ max_address h.bits)
  where
    -- The record is read back, and the context after it is its address and the cache that the writer has then.
    pub decode_encode_record : Reads p (entry h before c index) (encode_record h before c r)
        (item (decoded_row h p before c r) r.refs (refs_place h p before c r) (make_context r.row.address (cache_after h before c r)))
    unfolding decoded_row name_place refs_place plan_record make_plan encode_record cache_after
    decode_encode_record =
        let s = chosen_form_decodable h c before index r w g bf bl in
        reads_planned h c before index r _ _ _ s.0 p s.1 g.first

    -- Its name lies at the place in the row that is read.
    pub decoded_name : (pre post : List ℕ) → length pre ≡ p
        → take r.row.namelen (drop (name_place h p before c r) (pre ++ (encode_record h before c r ++ post))) ≡ r.name
    unfolding name_place plan_record make_plan encode_record
    decoded_name pre post e = let s = chosen_form_decodable h c before index r w g bf bl in name_at_place h c before index r _ _ _ s.0 p s.1 pre post e

-- The records that lie whole within a cut of a written dump, their references, and where a reading of the cut stops. A cut (the
-- scope paper's term) at m is the first m bytes.
-- A reader must believe these definitions.
use Rattle.std.specs.Prelude.{ℕ, ◌+◌, List, [], ◌∷◌, ◌++◌, cond, length, leb}
use Rattle.table.specs.Rows.{Rec}
use Rattle.phd.specs.Phd.{empty_cache}
use Rattle.phd.specs.declared.cache.Cache.{Cache}
use Rattle.phd.specs.declared.Header.{Header}
use Rattle.phd_encode.specs.EncodeRecord.{encode_record, cache_after}
use Rattle.phd_write.specs.Write.{encode_header}

-- The references of records, one record's after the other's.
unfoldable pub all_refs : List Rec → List ℕ
all_refs [] = []
all_refs (r ∷ rs) = r.refs ++ all_refs rs

-- The records whose last byte lies within the first m bytes, if they are written one after another from offset p on, after a
-- record at the address `before`, with the cache c.
unfoldable pub within_cut : ℕ → Header → ℕ → ℕ → Cache → List Rec → List Rec
within_cut m h p before c [] = []
within_cut m h p before c (r ∷ rs) =
    let e = p + length (encode_record h before c r) in
    cond (leb e m) (r ∷ within_cut m h e r.row.address (cache_after h before c r) rs) []

-- The offset where a reading of the first m bytes stops, if the same records and the end tag are written there: after the end tag
-- if it lies within the cut, otherwise at the tag of the first record that does not lie whole within the cut, or at the end tag.
unfoldable pub stop_in : ℕ → Header → ℕ → ℕ → Cache → List Rec → ℕ
stop_in m h p before c [] = cond (leb (p + 1) m) (p + 1) p
stop_in m h p before c (r ∷ rs) =
    let e = p + length (encode_record h before c r) in
    cond (leb e m) (stop_in m h e r.row.address (cache_after h before c r) rs) p

-- The records of a dump whose last byte lies within its first m bytes.
abbrev pub cut_recs : List ℕ → Header → List Rec → ℕ → List Rec
cut_recs names h rs m = within_cut m h (length (encode_header names h)) 0 empty_cache rs

-- The offset where a reading of the first m bytes of a dump stops; 0 if the cut lies within the header.
abbrev pub stop_at : List ℕ → Header → List Rec → ℕ → ℕ
stop_at names h rs m = cond (leb (length (encode_header names h)) m) (stop_in m h (length (encode_header names h)) 0 empty_cache rs) 0

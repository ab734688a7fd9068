-- EncodeRecord (the bytes of a record, and the cache after it), EncodedLengths (their number), TagBits (the bits of tags and flag
-- bytes), SizeFromRow (the size from the row alone) and PlanBounds (the plan input of a good record is bounded).
pub mod EncodeRecord
pub mod EncodedLengths
pub mod TagBits
pub mod SizeFromRow
pub mod PlanBounds

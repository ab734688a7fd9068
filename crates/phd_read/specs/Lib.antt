-- Read first: ReadContract (the contract of `read_tables`) and ReadTheorems (the theorems about it).
-- The proofs of these theorems: RecordProperties (the row of a record that was read, and where its references and its tag are),
-- RecordLayout (a record takes exactly the bytes of its shape), ReadReplies (the replies that a layout refuses with), PhdLaws
-- (PHD is a lawful format of `reader`), StoredCounts (the counts returned), RowTags (the tag of a row's record), CacheTheorems
-- (the class cache), Ranges (addresses and references), LengthBounds (the length of a row), SizeBounds (its size and its count of
-- references), RecordBytes (the bytes of a record, and the most rows and references that a dump of a given length can give).
-- For the contracts of functions: StoredRefs (a record's references as they are stored) and PhdSteps (the effect of a step).
pub mod ReadContract
pub mod StoredRefs
pub mod PhdSteps
pub mod ReadTheorems
pub mod RecordProperties
pub mod RecordLayout
pub mod ReadReplies
pub mod PhdLaws
pub mod StoredCounts
pub mod Ranges
pub mod LengthBounds
pub mod SizeBounds
pub mod RecordBytes
pub mod RowTags
pub mod CacheTheorems

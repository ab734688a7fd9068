-- Encode (the bytes of numbers, gaps and references, and the least widths that hold them), Widths (laws of those widths),
-- ReadFits (a number read from a field fits that field), NumberRoundTrip (numbers are read back from their bytes), Reads (a
-- layout reads back encoded bytes), FieldRoundTrip (addresses, references, counts and strings are read back), SetsLaws (storing
-- one list after another), Writes (a function wrote bytes at an offset) and WriteProgress (bytes written in several parts).
pub mod Encode
pub mod Widths
pub mod ReadFits
pub mod NumberRoundTrip
pub mod Reads
pub mod FieldRoundTrip
pub mod SetsLaws
pub mod Writes
pub mod Wrote
pub mod WriteProgress

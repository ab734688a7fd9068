-- Definitions: Table (a slice of numbers as rows), Rows (a row by its numbers, the rows of a table as a list, and the records
-- that they represent), Kinds (of records), Sums and Search (over rows), RowBytes (class rows by address, the bytes of a row), Buffer (a buffer with a
-- list stored at its start), CheckOrder (the order of a writer's checks, and the reply of each), Refusals (the answer of a refusal). Theorems: SizeQuery (a size query agrees with the write that follows it) and
-- OffsetsIgnored (tables that differ only in the offsets of their rows have the same rows).
pub mod Table
pub mod Rows
pub mod Kinds
pub mod Sums
pub mod Search
pub mod RowBytes
pub mod Buffer
pub mod CheckOrder
pub mod Refusals
pub mod SizeQuery
pub mod OffsetsIgnored

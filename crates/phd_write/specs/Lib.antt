-- In reading order: Write (the bytes of a dump, the result of a write, and the answer of a size query), WriteExample (the dump of
-- docs/FORMAT.md 9, written), WriteTerms (the terms of the theorems) and WriteTheorems (what holds of writes and size queries).
-- The rest is for proofs: HeaderBytes (the parts of the header), RowSteps and WriteInvariants (the loops over the rows) and
-- WriteOutcomes (which check decides a write, and how a size query agrees with it).
pub mod Write
pub mod WriteExample
pub mod WriteTerms
pub mod WriteTheorems
pub mod HeaderBytes
pub mod RowSteps
pub mod WriteInvariants
pub mod WriteOutcomes

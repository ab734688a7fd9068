-- In reading order: `Counts` (the counts of rows), `ExactCounts` (the counts of good rows are exact, and fit 64 bits) and
-- `NullsCases` (the nulls of some tables). `CountLoop` is for proofs: counting row after row.
pub mod Counts
pub mod ExactCounts
pub mod NullsCases
pub mod CountLoop

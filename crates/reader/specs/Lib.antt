-- `Reader` defines dump formats and their reading. The other modules have definitions and laws that hold for every format, and
-- the modules of the same names in proofs/ the theorems:
-- `Steps` (the laws that a format must satisfy, and induction over records), `Prefixes` (readings of two cuts of the same bytes),
-- `MissingBytes` (the missing bytes of a cut dump), `WithinCapacity` (capacity and replies), `DumpBounds` (how much a dump of a
-- given length can fill), `PrefixTables` (two cuts, in the callers' tables), `RowOrigins` (the record that a row came from),
-- `TableSteps` and `ManySteps` (one step and several steps over the caller's tables, for the functions that read) and `SmallerTables` (a
-- smaller row table that holds all rows).
pub mod Reader
pub mod Steps
pub mod Prefixes
pub mod MissingBytes
pub mod WithinCapacity
pub mod DumpBounds
pub mod PrefixTables
pub mod RowOrigins
pub mod TableSteps
pub mod ManySteps
pub mod SmallerTables

-- Theorems that hold for every format, on the definitions of the modules of specs/ that have the same names.
pub mod Steps
pub mod WithinCapacity
pub mod DumpBounds
pub mod Prefixes
pub mod MissingBytes
pub mod PrefixTables
pub mod RowOrigins
pub mod SmallerTables
pub mod TableSteps
pub mod ManySteps

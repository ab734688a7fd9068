-- ReadThenWrite: if a reading has read the header, its header and rows pass every check of the writer and of the text.
-- The rest is for proofs: ReadRows (bounds on the row of a record that was read, by its shape), GoodForms (such a row is good,
-- whatever its form) and GoodTables (all rows that a reading stores are good).
pub mod ReadThenWrite
pub mod ReadRows
pub mod GoodForms
pub mod GoodTables

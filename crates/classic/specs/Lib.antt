-- ClassicText (the text as a list of lines, and the results of writing it and of a size query), TextExample (the dump of
-- docs/FORMAT.md 9 as text) and ClassRows (class rows by name, and rows whose class row is missing). RowBounds (bounds on the numbers of
-- good rows) and PrimitiveClasses (class words of primitive arrays) are for proofs.
pub mod ClassicText
pub mod TextExample
pub mod ClassRows
pub mod RowBounds
pub mod PrimitiveClasses

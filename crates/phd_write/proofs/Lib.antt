-- CheckedFirst (what the checks refuse, a write refuses), DumpSize (the sizes of header and rows add up to that of the dump) and
-- RowsLoop (what holds of the next row in a loop).
pub mod CheckedFirst
pub mod DumpSize
pub mod RowsLoop

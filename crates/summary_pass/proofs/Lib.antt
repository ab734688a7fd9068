-- Laws that the proofs of this crate's functions cite: FromEntry (where the entry of a key is), CountRow (one more row counted) and SizeRow
-- (one more row of the pass over the class rows).
pub mod FromEntry
pub mod CountRow
pub mod SizeRow

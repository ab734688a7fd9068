-- Laws that the proofs of this crate's functions cite; Widths: the width code is the least whose width holds a number.
pub mod EncodeLaws
pub mod OverlapLaws
pub mod Stores
pub mod Widths

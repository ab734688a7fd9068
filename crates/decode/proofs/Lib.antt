-- Laws that the proofs of this crate's functions, and of the crates that use it, cite.
pub mod DecodeLaws

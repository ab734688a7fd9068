-- Laws of bytes, shifts and references that the proofs of this crate's functions cite.
pub mod FastLaws

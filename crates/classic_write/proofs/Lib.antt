-- Laws that the proofs of this crate's functions cite.
pub mod SearchSteps
pub mod TextSteps
pub mod WriteText

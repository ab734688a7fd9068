-- Laws that the proofs of this crate cite: Beginning and EmptyTally (before the first record), and ReadStages (the loop over batches).
pub mod Beginning
pub mod EmptyTally
pub mod ReadStages

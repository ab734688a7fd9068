-- Laws that the proofs of this crate's functions cite, and the theorem about certified buckets (Certified).
pub mod BucketSteps
pub mod EnterSteps
pub mod Certified

-- A law of every header that is read whole.
pub mod HeaderOutcomes

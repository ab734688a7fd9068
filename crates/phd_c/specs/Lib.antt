-- Boundary defines a header and an answer as numbers.
pub mod Boundary

-- `StoreLaws` has a law of numbers stored one after another, `ToyStepLaws` the laws of steps that the proofs of this crate's functions
-- use. `Toy` has the format's laws, and the theorems that then hold for its reading.
pub mod StoreLaws
pub mod ToyStepLaws
pub mod Toy

-- Laws for the proofs of this crate's functions: StoreLaws (references stored one after another), InRangeLaws (references that need no
-- range check), StepLaws (the contract of a step) and LoopLaws (the cursor, the tables and the answer at the end of a loop over steps).
pub mod StoreLaws
pub mod InRangeLaws
pub mod StepLaws
pub mod LoopLaws

-- `Toy` is the format: its definition. `ReaderSpecs` has the definitions that the contracts of the functions use.
pub mod Toy
pub mod ReaderSpecs

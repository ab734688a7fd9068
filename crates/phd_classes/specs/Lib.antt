-- For proofs: ReadState (what holds between two batches of a reading, and the contracts of the functions), KeyAmong (keys among rows),
-- PassRows (tallies of tables that agree on their first rows), EndResults (the result of a reading that ends) and BatchRows (the rows of
-- a batch). The definition of the reading is in the crate classes_read.
pub mod ReadState
pub mod KeyAmong
pub mod PassRows
pub mod EndResults
pub mod BatchRows

-- Read first: PassState (the contracts of the functions). For their proofs: KeyPlaces (the place of a key), PassLists (the list
-- during a pass) and PassSteps (the list after one more row).
pub mod PassState
pub mod KeyPlaces
pub mod PassLists
pub mod PassSteps

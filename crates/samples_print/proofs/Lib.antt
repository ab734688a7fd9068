pub mod StoredPart

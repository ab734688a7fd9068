-- Laws that the proofs of this crate's functions cite.
pub mod RecordLaws
pub mod FastRecordLaws
pub mod ArrayLaws

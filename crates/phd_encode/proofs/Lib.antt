-- CompactRecord (the bytes of a compact record) and SizeBounds (bounds and laws that the proof of `record_size` uses).
mod CompactRecord
pub mod SizeBounds

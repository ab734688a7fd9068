-- Comparing two byte lists one byte at a time.
pub mod BytesEqual

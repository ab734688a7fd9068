-- Records and the layouts that they are of (RecordReads), the contract of the fast path (FastPath), and object arrays after their
-- front part (Arrays).
pub mod RecordReads
pub mod FastPath
pub mod Arrays

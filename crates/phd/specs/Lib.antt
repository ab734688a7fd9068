-- The definition of the format and of reading (Phd), the scope paper's cases of it (ReadCases), and laws of its parts
-- (ClassCache, Shapes, RefList, EntryLaws, ByteTests).
pub mod Phd
pub mod ReadCases
pub mod ClassCache
pub mod Shapes
pub mod RefList
pub mod EntryLaws
pub mod ByteTests

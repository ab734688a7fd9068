-- Definition: ClassesRead. Theorems: ClassesTheorems (what the list does to a reading, the place of reply 20, demand 3 with the list),
-- RowsWithin (how many rows a list is enough for), ClassesCases (computed cases). For proofs: FullList (a reading that ends for want of
-- capacity), RowLists.
pub mod ClassesRead
pub mod ClassesCases
pub mod RowsWithin
pub mod FullList
pub mod RowLists
pub mod ClassesTheorems

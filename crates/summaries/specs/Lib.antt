-- Summaries (the definition), SummaryExample (a computed case) and EntrySteps (what the code's methods do). Theorems: SummaryTotals (what all entries amount to), SummaryKeys (keys
-- are distinct), SummaryStep (one more row), ClassRowsLast (class rows may be summed up last). For proofs: KeyCounts, ClassSizes,
-- EntryPlace, EntryBounds.
pub mod Summaries
pub mod SummaryExample
pub mod EntrySteps
pub mod SummaryKeys
pub mod KeyCounts
pub mod ClassSizes
pub mod SummaryStep
pub mod SummaryTotals
pub mod EntryPlace
pub mod ClassRowsLast
pub mod EntryBounds

-- RefsInRange: when the references of a record need no range check, and what they are then.
pub mod RefsInRange

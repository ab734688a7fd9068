-- InMemory (the round trip, for calls of `write` and `read_tables`).
pub mod InMemory

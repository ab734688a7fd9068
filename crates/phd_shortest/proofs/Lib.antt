-- Shortest (the theorem: each record of a written dump is the shortest).
pub mod Shortest

-- ReadAs: definitions for the theorem, which is in proofs/Shortest.antt (each record of a written dump is the shortest).
-- The rest is for proofs: MinimalPlan (no record that is the same has fewer bytes than the writer's plan), RecordShortest (so the
-- bytes of one record are the fewest) and RemainingRecords (which records a reading of a written dump finds).
pub mod ReadAs
pub mod MinimalPlan
pub mod RecordShortest
pub mod RemainingRecords

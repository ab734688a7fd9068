-- ClassIndex (the search by buckets, and what certifies them), BucketExample (buckets by computation), Entering (what entering a class
-- row keeps), LastSearch (the search for the row before) and Tables (what a search keeps). None of them is part of the definition of the text. The theorem about
-- certified buckets is in proofs/Certified.antt.
pub mod ClassIndex
pub mod BucketExample
pub mod Entering
pub mod LastSearch
pub mod Tables

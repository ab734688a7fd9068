-- In reading order: TextTheorems (the theorems about the text), LineEnds (which of its lines end in a space) and TextParts (the
-- text in its three parts, as the functions size and write them).
-- The others are for the proofs: TextSizes (sizes of the parts), TextInvariants (loop invariants of the functions that size and
-- write the rows), TextOutcomes (the replies by the checks, the size query, and bounds that good tables satisfy) and SizedText
-- (the result of checking and sizing a text, before it is written).
pub mod TextTheorems
pub mod LineEnds
pub mod TextParts
pub mod TextSizes
pub mod TextInvariants
pub mod TextOutcomes
pub mod SizedText

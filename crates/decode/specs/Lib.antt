-- Numbers: bytes, two's complement, exact sums. Layout: the language that describes records, and its laws. Fields: the kinds of
-- field in a dump. Slices: slices of lists.
-- Laws of every layout: CutLaws (longer and shorter dumps), Values (values given and replies refused with), ByteValues (values of
-- bytes below 256), Takes (how many bytes a value takes).
pub mod Numbers
pub mod Layout
pub mod Fields
pub mod Reads
pub mod ReadsAs
pub mod Slices
pub mod CutLaws
pub mod Values
pub mod ByteValues
pub mod Takes

-- In reading order: CutRecords (the records within a cut), RoundTripTheorems (the round trip, and the cuts of a written dump) and
-- InMemory (both for calls of `write` and `read_tables`), ClassesCuts (both with a list of class summaries).
-- The rest is for proofs. One record: Decodable (the conditions under which a record is read back), FieldsRoundTrip (its parts
-- are read back), EntryRoundTrip (the whole record is read back), ChosenForm (a good record satisfies the conditions in the form
-- chosen for it; by FormFits, FormsWithRefs and PrimitiveForms) and RecordRoundTrip (so a good record is read back).
-- A dump: CutRecordLaws (laws of the bytes of records, and of the records within a cut), HeaderRoundTrip (the header is read
-- back), PrefixReading (record after record, for any cut), DecodedRows (the rows read are the records written), DumpRoundTrip (a
-- whole dump and its cuts) and WrittenIsGood (a written dump is good).
pub mod CutRecords
pub mod RoundTripTheorems
pub mod InMemory
pub mod Decodable
pub mod FieldsRoundTrip
pub mod EntryRoundTrip
pub mod FormFits
pub mod FormsWithRefs
pub mod PrimitiveForms
pub mod ChosenForm
pub mod RecordRoundTrip
pub mod CutRecordLaws
pub mod HeaderRoundTrip
pub mod PrefixReading
pub mod DecodedRows
pub mod DumpRoundTrip
pub mod WrittenIsGood
pub mod ClassesCuts

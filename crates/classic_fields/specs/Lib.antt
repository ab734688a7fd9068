-- AddressParts: the text of an address in the parts in which it is written. FieldLengths: how many bytes addresses and lists of
-- references have in the classic text.
pub mod AddressParts
pub mod FieldLengths

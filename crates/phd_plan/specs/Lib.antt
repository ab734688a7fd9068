-- FormChoice (the form in which a record is written, with its tag and its flag byte) and MinimalForm (its widths are the least,
-- and an object's form is the shortest that can hold it).
pub mod FormChoice
pub mod MinimalForm

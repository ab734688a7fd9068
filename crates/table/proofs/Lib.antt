-- Laws of a row within its table, and of the search for the first row (specs/Search.antt).
pub mod TableLaws
pub mod SearchLaws

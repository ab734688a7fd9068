-- SummaryIndex (the index, and what a search in it means), EnterKey (a key entered in a bucket keeps the index right).
pub mod SummaryIndex
pub mod EnterKey

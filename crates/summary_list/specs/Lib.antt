pub mod EntryList

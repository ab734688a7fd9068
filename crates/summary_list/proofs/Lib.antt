-- EntrySearch is the search of `find_entry`.
pub mod EntrySearch

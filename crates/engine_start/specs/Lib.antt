pub mod Contents
pub mod ContentLaws
pub mod Entries
pub mod EntryLaws

pub mod Entries
pub mod Classes
pub mod EntryLaws

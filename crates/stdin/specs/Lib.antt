pub mod Reads
pub mod ReadsLaws
pub mod Ends
pub mod EndsLaws

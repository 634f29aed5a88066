pub mod RowWords
pub mod Rows
pub mod LineRows
pub mod Whole
pub mod NotGiven

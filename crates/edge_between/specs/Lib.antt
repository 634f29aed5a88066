pub mod Between
pub mod Rows
pub mod RowLaws
pub mod BetweenExamples

pub mod KeyWord
pub mod RowTable
pub mod RowTableLaws

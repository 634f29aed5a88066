pub mod CellLaws
pub mod Cells

pub mod RowsIn

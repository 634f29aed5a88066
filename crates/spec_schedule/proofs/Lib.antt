pub mod ReadsCount

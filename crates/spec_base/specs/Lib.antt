pub mod Basic
pub mod BasicExamples

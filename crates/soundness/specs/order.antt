pub mod Order
pub mod OrderExamples
pub mod OrderLaws

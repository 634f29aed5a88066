pub mod Reason
pub mod ReasonLaws
pub mod ReasonExamples

pub mod Choices
pub mod ChoiceExamples

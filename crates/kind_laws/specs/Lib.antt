pub mod Agreement
pub mod TableExamples
pub mod WitnessTexts

pub mod StepWord
pub mod StepWordLaws

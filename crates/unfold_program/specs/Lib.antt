pub mod ProgramSettled
pub mod ProgramSteps
pub mod ProgramLaws
pub mod GivenCodes
pub mod ProgramExamples
pub mod OneAnswer

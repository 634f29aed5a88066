pub mod Before
pub mod BeforeExamples
pub mod BeforeLaws
pub mod TakenLaws

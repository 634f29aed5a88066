pub mod ConditionLocks
pub mod UndisturbedPrograms
pub mod LawExamples

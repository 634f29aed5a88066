pub mod LeastStep
pub mod StepTurns
pub mod StepTurnLaws
pub mod LeastStepLaws
pub mod Tabled
pub mod LooseLaws
pub mod MayLaws

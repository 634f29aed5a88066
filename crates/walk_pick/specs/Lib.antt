pub mod Picks
pub mod PickSteps
pub mod Runs
pub mod Leavings
pub mod PairLaws
pub mod PickStepLaws
pub mod WorkLaws
pub mod RunLaws

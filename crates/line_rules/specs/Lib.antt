pub mod Holds
pub mod ArrayLaws
pub mod TestLaws
pub mod HoldsLaws
pub mod WordsHold
pub mod WordsHoldLaws
pub mod Tested
pub mod ReadLaws

pub mod EdgesSettled
pub mod Prepared
pub mod Listed
pub mod Few
pub mod NotGiven

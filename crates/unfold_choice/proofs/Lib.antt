pub mod TellLaws
pub mod FindLaws
pub mod OverLaws

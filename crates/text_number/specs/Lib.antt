pub mod DigitLaws
pub mod Digits

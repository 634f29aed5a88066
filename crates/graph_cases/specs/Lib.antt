pub mod GraphCases
pub mod EdgeCases

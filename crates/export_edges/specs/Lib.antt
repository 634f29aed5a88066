pub mod EdgesTold
pub mod ToldLaws

pub mod Numbers
pub mod Told
pub mod NumberLaws
pub mod Refusing

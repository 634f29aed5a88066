pub mod SetsMeant
pub mod ChancesMeant
pub mod TableLaws

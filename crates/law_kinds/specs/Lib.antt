pub mod EveryKind
pub mod KindSets
pub mod SetMeaning
pub mod Chances
pub mod ChanceLaws
pub mod TextPairs

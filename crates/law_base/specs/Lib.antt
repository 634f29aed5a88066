pub mod BoolLaws
pub mod ListLaws
pub mod FlatLaws
pub mod SetLaws
pub mod PositionLaws
pub mod EveryValue

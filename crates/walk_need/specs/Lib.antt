pub mod Needs
pub mod NeedTurns

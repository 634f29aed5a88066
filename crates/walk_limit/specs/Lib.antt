pub mod Limits
pub mod LimitTurns

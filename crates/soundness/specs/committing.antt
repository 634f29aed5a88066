pub mod EveryAction
pub mod Past
pub mod Rules
pub mod SeenWrites
pub mod Letters
pub mod Commits
pub mod WriteKinds

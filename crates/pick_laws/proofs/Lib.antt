pub mod NodeComplete
pub mod WalksCompleted
pub mod WalksFinish
pub mod WalkLeads

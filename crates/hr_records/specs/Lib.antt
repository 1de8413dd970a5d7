pub mod ByRule
pub mod Numbers
pub mod AtReplica
pub mod Leads
pub mod Kept
